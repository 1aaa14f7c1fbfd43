-- The checks of a plan, one after the other: what each that passed says, what the parts left behind, and the answer at the number of the first that fails.
use Rattle.std.specs.Prelude.{Option}
use Rattle.bisim_core.specs.declared.ids.StateId.{StateId}
use mathlib.Core.Path.{◌≡◌, refl, sym, subst, ap, ◌∙◌}
use mathlib.Core.Bool.{Bool, true, false, ◌||◌, not}
use mathlib.Core.Logic.{◌≢◌}
use Prim.Native.Nat.{ℕ, ◌≤◌, ◌<◌}
use mathlib.Core.List.{List, ◌++◌, map}
use native.Mathlib.Omega.{arith}
use lib.Dec.{ltb}
use lib.Ieee.{nan}
use lib.ListN.{length, get_or, take, drop, length-take}
use lib.Seq.{get_or-take, take_at, length-take-le}
use borrow.Author.Tests.{lt-ltb, le-ltb, ltb-true, not-false}
use Rattle.numbers.specs.Lists.{span, all}
use Rattle.numbers.specs.Refuse.{check}
use Rattle.numbers.proofs.Alls.{all_at}
use Rattle.numbers.proofs.Bools.{or_f}
use Rattle.numbers.proofs.Refuses.{check_hit, check_skip, check_none, first, first_hit, first_skip}
use Rattle.bisim_core.specs.Data.{Edge, Transitions}
use Rattle.build_theory.specs.declared.lent.Draft.{Draft}
use Rattle.build_theory.specs.Lent.{transitions_of}
use Rattle.bisim_core.specs.Edges.{crowded_in}
use Rattle.build_theory.specs.Edges.{nonzero, sort_edges}
use Rattle.bisim_core.specs.Model.{starts_outside}
use Rattle.build_theory.specs.Checks.{outside, unweighed, crowded, jump_at, reach}
use Rattle.build_theory.proofs.Steps.{Sortable, Sorted, Crowded, Arrangeable, Arranged}
use Rattle.build_theory.proofs.Targets.{sorted_crowd, crowd_alike}

-- two checks, then those that come later
two_first : (a b : Bool) (later : ℕ) → check 4 a (check 5 b later) ≡ first (check 4 a (check 5 b 0)) later
two_first true b later = refl
two_first false true later = refl
two_first false false later = refl

-- a test that holds of the first entries given
all_given : (t : ℕ → Bool) (l : List ℕ) (given : ℕ) → all t (take given l) ≡ true → (j : ℕ) → j < given → j < length l → t (get_or l j 0) ≡ true
all_given t l given h j k m =
    ap t (sym (get_or-take given l j 0 k)) ∙ all_at t (take given l) 0 h j (let e = length-take given l in omega arith)

-- ---- the first m keys, sorted and put back before the others

pub put_back : {S T : List ℕ} (m : ℕ) (I Q : List ℕ) → m ≤ length I → length Q ≡ length (take m I) → Sorted S T (take m I) Q → Sorted S T (take m I) (take m (Q ++ drop m I))
put_back {S} {T} m I Q w l = subst (Sorted S T (take m I)) (sym (take_at Q (drop m I) m (l ∙ length-take-le m I w)))

-- ---- the checks of `arranged`

pub record Call : Type 0 where
  pub states : ℕ
  pub initial : Option StateId
  pub C : Transitions
  pub given : ℕ
  pub full : Bool

abbrev pub call_of : Draft → Bool → Call
call_of D full = record { states = D.states; initial = D.initial; C = transitions_of D; given = D.given; full = full }

module _ (Z : Call) where
  abbrev states : ℕ
  states = Z.states

  abbrev C : Transitions
  C = Z.C

  abbrev given : ℕ
  given = Z.given

  abbrev c3 : Bool
  c3 = ltb 2000 states

  abbrev c4 : Bool
  c4 = outside states Z.initial C given

  abbrev c5 : Bool
  c5 = unweighed C given

  abbrev c6 : Bool
  c6 = crowded states C given

  abbrev fault : ℕ
  fault = check 4 c4 (check 5 c5 0)

  abbrev n : ℕ
  n = reach C given

  abbrev Answer : List ℕ → List ℕ → ℕ → Type 0
  Answer I K r = Arranged states Z.initial C given Z.full I K r

  -- the answers that are left once the keys are sorted and b says whether a state has too many targets
  pub record Ends (I K : List ℕ) (b : Bool) : Type 0 where
    pub crowds : b ≡ true → Answer I K 6
    pub crammed : b ≡ false → Z.full ≡ true → Answer I K 7
    pub passes : b ≡ false → Z.full ≡ false → Answer I K 0

  ends_at : {I K : List ℕ} (r : ℕ) → check 3 c3 (check 4 c4 (check 5 c5 (check 6 c6 (check 7 Z.full 0)))) ≡ r → r ≢ 0 → Answer I K r
  ends_at r e h = record { number = sym e; sorted = λ z. absurd (h z) }

  pub many_states : {I K : List ℕ} → 2000 < states → Answer I K 3
  many_states h = ends_at 3 (check_hit 3 c3 _ (lt-ltb 2000 states h)) (λ z. omega arith)

  module _ (low : states ≤ 2000) where
    passed_3 : c3 ≡ false
    passed_3 = le-ltb 2000 states low

    after_3 : {I K : List ℕ} (r : ℕ) → first fault (check 6 c6 (check 7 Z.full 0)) ≡ r → r ≢ 0 → Answer I K r
    after_3 r e h = ends_at r (check_skip 3 c3 _ r passed_3 (two_first c4 c5 (check 6 c6 (check 7 Z.full 0)) ∙ e)) h

    pub faulty : {I K : List ℕ} (r : ℕ) → r ≡ fault → r ≢ 0 → Answer I K r
    faulty r e h = after_3 r (first_hit fault _ (λ z. h (e ∙ z)) ∙ sym e) h

    module _ {r : ℕ} (e : r ≡ fault) (z : r ≡ 0) where
      sound : fault ≡ 0
      sound = sym e ∙ z

      inside : (all (λ x. ltb x states) (take given C.sources) ≡ true) × (all (λ x. ltb x states) (take given C.targets) ≡ true)
      inside =
          let (h, k) = check_none 3 c4 (check 5 c5 0) sound in
          let (a, b) = or_f (starts_outside Z.initial states) (not (all (λ x. ltb x states) (take given C.sources)) || not (all (λ x. ltb x states) (take given C.targets))) h in
          let (p, q) = or_f (not (all (λ x. ltb x states) (take given C.sources))) (not (all (λ x. ltb x states) (take given C.targets))) b in
          (not-false _ p, not-false _ q)

      s_low : (j : ℕ) → j < n → get_or C.sources j 0 < states
      s_low j h = ltb-true _ _ (all_given (λ x. ltb x states) C.sources given inside.0 j (omega arith) (omega arith))

      module _ {I : List ℕ} (A : Arrangeable given I) where
        front_length : length (take n I) ≡ n
        front_length = length-take-le n I (let a = A.room in omega arith)

        pub sortable : Sortable C.sources C.targets (take n I)
        sortable =
            let l = front_length in
            record {
              keyable = record {
                few = let a = A.few in omega arith;
                s_in = omega arith;
                t_in = omega arith;
                low = λ j h. subst (λ x. x < 256) (sym (get_or-take n I j 0 (omega arith))) (A.low j (omega arith));
              };
              t_low = λ j h. let a : get_or C.targets j 0 < states = ltb-true _ _ (all_given (λ x. ltb x states) C.targets given inside.1 j (omega arith) (omega arith)) in omega arith;
            }

        -- the first m keys are sorted, and b says whether a state of them has too many targets
        module _ (K : List ℕ) {m : ℕ} (y : m ≡ n) (S₀ : Sorted C.sources C.targets (take m I) (take m K)) {b : Bool} (X₀ : Crowded (take m K) C.weights b) where
          S : Sorted C.sources C.targets (take n I) (take n K)
          S = subst (λ k. Sorted C.sources C.targets (take k I) (take k K)) y S₀

          X : Crowded (take n K) C.weights b
          X = subst (λ k. Crowded (take k K) C.weights b) y X₀

          abbrev given_at : ℕ → Edge
          given_at j = record { source = get_or C.sources j 0; label = get_or (take n I) j 0; target = get_or C.targets j 0; weight = get_or C.weights j nan }

          crowd_is : b ≡ c6
          crowd_is =
              X.same states (S.under states (λ j h. let l = front_length in s_low j (omega arith)))
              ∙ ap (λ (l : List Edge). crowded_in (nonzero l) (span 0 states)) (S.edges C.weights given_at (λ j h. refl) ∙ ap (λ (k : ℕ). sort_edges (map given_at (span 0 k))) front_length)
              ∙ sorted_crowd (map given_at (span 0 n)) (span 0 states) ∙ crowd_alike given_at (jump_at C) (λ i. (refl, refl, refl)) (span 0 n) (span 0 states)

          pub sorted_ends : Ends I K b
          sorted_ends = record {
            crowds = λ h. after_3 6 (first_skip fault _ 6 sound (check_hit 6 c6 _ (sym crowd_is ∙ h))) (λ y. omega arith);
            crammed = λ h k. after_3 7 (first_skip fault _ 7 sound (check_skip 6 c6 _ 7 (sym crowd_is ∙ h) (check_hit 7 Z.full 0 k))) (λ y. omega arith);
            passes = λ h k. record {
              number = sym (check_skip 3 c3 _ 0 passed_3 (two_first c4 c5 (check 6 c6 (check 7 Z.full 0)) ∙ first_skip fault _ 0 sound (check_skip 6 c6 _ 0 (sym crowd_is ∙ h) (check_skip 7 Z.full 0 0 k refl))));
              sorted = λ y. S;
            };
          }
