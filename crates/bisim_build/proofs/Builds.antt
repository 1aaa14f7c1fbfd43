-- How `build` ends, by the plan: a refusal of the plan is its own, and else the columns are written from what the plan left.
use Rattle.std.specs.Prelude.{Option, Result, Ok, Err}
use Rattle.std.specs.Result.{is_ok}
use Rattle.build_theory.specs.declared.lent.Draft.{Draft}
use Rattle.build_theory.specs.declared.lent.Store.{Store}
use Rattle.build_theory.specs.Lent.{transitions_of, columns_in}
use Rattle.bisim_core.specs.declared.ids.StateId.{StateId}
use mathlib.Core.Path.{◌≡◌, refl, sym, subst, ap, ◌∙◌}
use mathlib.Core.Bool.{Bool, true, false, ◌||◌, true≢false, false≢true}
use mathlib.Core.Logic.{◌⊎◌, inl, inr, ◌≢◌}
use Prim.Native.Nat.{ℕ, zero, suc, min, ◌+◌, ◌≤◌, ◌<◌}
use mathlib.Core.List.{List, map}
use native.Mathlib.Omega.{arith}
use lib.Dec.{ltb}
use lib.Ieee.{Float}
use lib.ListN.{length, take, drop, length-append, length-map}
use lib.Seq.{take_at}
use borrow.Author.Tests.{lt-ltb, le-ltb, ltb-false}
use Rattle.numbers.specs.Lists.{over}
use Rattle.numbers.specs.Refuse.{check}
use Rattle.numbers.proofs.Bools.{lt_or_ge, or_f}
use Rattle.numbers.proofs.Refuses.{check_same, hit, skip, none}
use Rattle.bisim_core.specs.Data.{Edge, Transitions, Columns, columns}
use Rattle.build_theory.specs.Edges.{edges, offsets}
use Rattle.build_theory.specs.Checks.{labels_of, oversized, outside, unweighed, crowded, missing, refusal}
use Rattle.build_theory.proofs.Plan.{Lists, lists, laid, shortest, Ending, ending, outcome, planned}
use Rattle.build_theory.proofs.Steps.{rank, Rising, edges_in, Writable, Written}
use Rattle.bisim_build.specs.Build.{short, Outcome, ends, made, settled, build}
use Rattle.bisim_build.proofs.Made.{Passed, passes, sizes, small, strict, edges_few}
use Rattle.bisim_build.proofs.Stored.{stored_edges, stored_rising}

-- ---- check 7, in two parts

-- a list that has room for the transitions given does not matter
room_of : (l t w given : ℕ) → given ≤ t → ltb (min l (min t w)) given ≡ (ltb l given || ltb w given)
room_of l t w given h = pick (lt_or_ge l given) (lt_or_ge w given)
  where
    pick : (l < given) ⊎ (given ≤ l) → (w < given) ⊎ (given ≤ w) → ltb (min l (min t w)) given ≡ (ltb l given || ltb w given)
    pick (inl a) b = lt-ltb (min l (min t w)) given (omega arith) ∙ hit _ _ (sym (lt-ltb l given a))
    pick (inr a) (inl b) = lt-ltb (min l (min t w)) given (omega arith) ∙ skip _ _ _ (le-ltb l given a) (sym (lt-ltb w given b))
    pick (inr a) (inr b) = le-ltb (min l (min t w)) given (omega arith) ∙ sym (none _ _ (le-ltb l given a) (le-ltb w given b))

reorder : (o e t l w : Bool) → ((o || (e || t)) || (l || w)) ≡ (o || (l || (e || (t || w))))
reorder true e t l w = refl
reorder false true t true w = refl
reorder false true t false w = refl
reorder false false true true w = refl
reorder false false true false w = refl
reorder false false false true w = refl
reorder false false false false w = refl

-- ---- the outcome of a plan

abbrev answer : Ending → Result (ℕ × ℕ) ℕ
answer o = o.answer

abbrev left : Ending → Lists
left o = o.memory

abbrev counts : Result (ℕ × ℕ) ℕ → ℕ × ℕ
counts (Ok p) = p
counts (Err k) = (0, k)

abbrev refusal_of : Result (ℕ × ℕ) ℕ → ℕ
refusal_of (Ok p) = 0
refusal_of (Err k) = k

refused_ends : (x : ℕ) (p : ℕ × ℕ) (r : ℕ) (old new last : Lists) → ending (Err r) last ≡ outcome x p old new → (x ≡ r) × (r ≢ 0) × (last ≡ old)
refused_ends zero p r old new last e = absurd (false≢true (ap (λ o. is_ok o.answer) e))
refused_ends (suc x) p r old new last e = let z = ap (λ o. refusal_of o.answer) e in (sym z, (λ y. omega arith), ap left e)

edges_end : (x : ℕ) (p : ℕ × ℕ) (m d : ℕ) (old new last : Lists) → ending (Ok (m, d)) last ≡ outcome x p old new → (x ≡ 0) × (m ≡ p.0) × (d ≡ p.1) × (last ≡ new)
edges_end zero p m d old new last e = (refl, ap (λ o. (counts o.answer).0) e, ap (λ o. (counts o.answer).1) e, ap left e)
edges_end (suc x) p m d old new last e = absurd (true≢false (ap (λ o. is_ok o.answer) e))

refused_is : (k r : ℕ) (M : Columns) (done : Outcome) → r ≡ k → k ≢ 0 → ends (Err k) M ≡ settled r M done
refused_is zero r M done e h = absurd (h refl)
refused_is (suc k) r M done e h = subst (λ (x : ℕ). ends (Err (suc k)) M ≡ settled x M done) (sym e) refl

done_is : (r : ℕ) (M : Columns) (done : Outcome) → r ≡ 0 → done ≡ settled r M done
done_is r M done e = subst (λ (x : ℕ). done ≡ settled x M done) (sym e) refl

-- a call of `build`
pub record Call : Type 0 where
  pub states : ℕ
  pub initial : Option StateId
  pub C : Transitions
  pub given : ℕ
  pub M : Columns
  pub T : List ℕ

abbrev pub call_of : Draft → Store → List ℕ → Call
call_of D S T = record { states = D.states; initial = D.initial; C = transitions_of D; given = D.given; M = columns_in S; T = T }

module _ (Z : Call) where
  abbrev states : ℕ
  states = Z.states

  abbrev initial : Option StateId
  initial = Z.initial

  abbrev C : Transitions
  C = Z.C

  abbrev given : ℕ
  given = Z.given

  abbrev M : Columns
  M = Z.M

  abbrev S : Lists
  S = lists M.labels Z.T M.edge_weights

  abbrev number : ℕ
  number = refusal states initial C given (short states given M)

  -- what a plan of m edges and d labels leaves to be written, from the first m triples, and what is then built
  pub record Planned (L T : List ℕ) (W : List Float) (m d : ℕ) : Type 0 where
    pub within : m ≤ length T
    pub fillable : {X : List ℕ} {n : ℕ} → X ≡ take m T → n ≡ length X → Writable X M.edge_labels M.edge_targets × (n ≤ 4096) × (states ≤ 2000) × (states < length M.offsets) × Rising X
    pub built : {X : List ℕ} → X ≡ take m T → {L' O EL ET : List ℕ} {W' : List Float} → Written X M.edge_labels M.edge_targets EL ET
        → ((U : List Float) → O ≡ over (offsets states (edges_in X U)) M.offsets) → L' ≡ L → W' ≡ W
        → ends (Ok (record { states = states; edges = m; labels = d; initial = initial })) (columns L' O EL ET W') ≡ build states initial C given M

  module _ (few : given ≤ 4096 → given ≤ length Z.T) {s : Bool}
      (e : s ≡ (ltb (length M.offsets) (states + 1) || (ltb (length M.edge_labels) given || ltb (length M.edge_targets) given))) where
    shorts : given ≤ 4096 → (s || ltb (shortest S) given) ≡ short states given M
    shorts h =
        ap (λ (b : Bool). b || ltb (shortest S) given) e
        ∙ ap (λ (b : Bool). (ltb (length M.offsets) (states + 1) || (ltb (length M.edge_labels) given || ltb (length M.edge_targets) given)) || b) (room_of (length M.labels) (length Z.T) (length M.edge_weights) given (few h))
        ∙ reorder (ltb (length M.offsets) (states + 1)) (ltb (length M.edge_labels) given) (ltb (length M.edge_targets) given) (ltb (length M.labels) given) (ltb (length M.edge_weights) given)

    number_is : refusal states initial C given (s || ltb (shortest S) given) ≡ number
    number_is = check_same 3 (oversized states C given) _ _ (λ h.
        let (a, b) = or_f (ltb 2000 states) (ltb 4096 given || ltb 256 (length (labels_of C given))) h in
        let (p, q) = or_f (ltb 4096 given) (ltb 256 (length (labels_of C given))) b in
        ap (λ (b : Bool). check 4 (outside states initial C given) (check 5 (unweighed C given) (check 6 (crowded states C given) (check 7 (missing C given || b) 0)))) (shorts (ltb-false _ _ p)))

    module _ {L T : List ℕ} {W : List Float} where
      plan_is : (q : Result (ℕ × ℕ) ℕ) → ending q (lists L T W) ≡ planned rank states initial C given s S
          → ending q (lists L T W) ≡ outcome number (length (edges C given), length (labels_of C given)) S (laid rank (labels_of C given) (edges C given) S)
      unfolding planned
      plan_is q f = f ∙ ap (λ (x : ℕ). outcome x (length (edges C given), length (labels_of C given)) S (laid rank (labels_of C given) (edges C given) S)) number_is

      pub plan_refused : (r : ℕ) → ending (Err r) (lists L T W) ≡ planned rank states initial C given s S
          → {O EL ET : List ℕ} → O ≡ M.offsets → EL ≡ M.edge_labels → ET ≡ M.edge_targets → ends (Err r) (columns L O EL ET W) ≡ build states initial C given M
      unfolding build
      plan_refused r f o el et =
          let (x, y, z) = refused_ends number _ r S _ (lists L T W) (plan_is (Err r) f) in
          rw (o, el, et) (same L W M.labels M.edge_weights (ap (λ (m : Lists). m.labels) z) (ap (λ (m : Lists). m.weights) z) ∙ refused_is r number M (made states initial C given M) x y)
        where
          same : (l : List ℕ) (w : List Float) (l' : List ℕ) (w' : List Float) → l ≡ l' → w ≡ w'
              → ends (Err r) (columns l M.offsets M.edge_labels M.edge_targets w) ≡ ends (Err r) (columns l' M.offsets M.edge_labels M.edge_targets w')
          same l w l' w' a b = cc

      module _ (m d : ℕ) (f : ending (Ok (m, d)) (lists L T W) ≡ planned rank states initial C given s S) where
        abbrev E : List Edge
        E = edges C given

        ended : (number ≡ 0) × (m ≡ length E) × (d ≡ length (labels_of C given)) × (lists L T W ≡ laid rank (labels_of C given) E S)
        ended = edges_end number _ m d S _ (lists L T W) (plan_is (Ok (m, d)) f)

        passed : Passed states initial C given × (short states given M ≡ false)
        passed = passes states initial C given (short states given M) ended.0

        numbers_are : T ≡ over (map rank E) Z.T
        numbers_are = ap (λ (x : Lists). x.numbers) ended.3

        triples_are : take m T ≡ map rank E
        triples_are = ap (take m) numbers_are ∙ take_at (map rank E) (drop (length (map rank E)) Z.T) m (length-map E rank ∙ sym ended.1)

        stored : edges_in (take m T) W ≡ E
        stored = ap (λ (x : List ℕ). edges_in x W) triples_are ∙ ap (edges_in (map rank E)) (ap (λ (x : Lists). x.weights) ended.3) ∙ stored_edges E M.edge_weights (small passed.0)

        rooms : (states < length M.offsets) × (given ≤ length M.edge_labels) × (given ≤ length M.edge_targets)
        rooms =
            let (a, b) = or_f (ltb (length M.offsets) (states + 1)) (ltb (length M.labels) given || (ltb (length M.edge_labels) given || (ltb (length M.edge_targets) given || ltb (length M.edge_weights) given))) passed.1 in
            let (c, h) = or_f (ltb (length M.labels) given) (ltb (length M.edge_labels) given || (ltb (length M.edge_targets) given || ltb (length M.edge_weights) given)) b in
            let (k, i) = or_f (ltb (length M.edge_labels) given) (ltb (length M.edge_targets) given || ltb (length M.edge_weights) given) h in
            let (n, o) = or_f (ltb (length M.edge_targets) given) (ltb (length M.edge_weights) given) i in
            let z : states + 1 ≤ length M.offsets = ltb-false _ _ a in
            (omega arith, ltb-false _ _ k, ltb-false _ _ n)

        cut_within : m ≤ length T
        cut_within =
            let t = ap length numbers_are ∙ length-append (map rank E) (drop (length (map rank E)) Z.T) in
            let u = length-map E rank in
            let q = ended.1 in
            omega arith

        -- what the columns are then written from
        cut_fillable : (n : ℕ) → n ≡ length (take m T) → Writable (take m T) M.edge_labels M.edge_targets × (n ≤ 4096) × (states ≤ 2000) × (states < length M.offsets) × Rising (take m T)
        cut_fillable n k =
            let (a, b, c) = sizes passed.0 in
            let h = edges_few passed.0 in
            let (x, y, z) = rooms in
            let l = ap length triples_are ∙ length-map E rank in
            (record { l_room = omega arith; g_room = omega arith }, omega arith, a, x, subst Rising (sym triples_are) (stored_rising E (strict passed.0)))

        cut_built : {L' O EL ET : List ℕ} {W' : List Float} → Written (take m T) M.edge_labels M.edge_targets EL ET
            → ((U : List Float) → O ≡ over (offsets states (edges_in (take m T) U)) M.offsets) → L' ≡ L → W' ≡ W
            → ends (Ok (record { states = states; edges = m; labels = d; initial = initial })) (columns L' O EL ET W') ≡ build states initial C given M
        unfolding build
        cut_built {L'} {O} {EL} {ET} {W'} w o l v =
            put m d L' O EL ET W' _ _ _ _ _ _ _ ended.1 ended.2 (l ∙ ap (λ (x : Lists). x.labels) ended.3) (o W ∙ ap (λ (x : List Edge). over (offsets states x) M.offsets) stored)
            (w.labels W ∙ ap (λ (x : List Edge). over (map (λ (a : Edge). a.label) x) M.edge_labels) stored)
            (w.targets W ∙ ap (λ (x : List Edge). over (map (λ (a : Edge). a.target) x) M.edge_targets) stored) (v ∙ ap (λ (x : Lists). x.weights) ended.3)
            ∙ done_is number M (made states initial C given M) ended.0
          where
            put : (m c : ℕ) (l o el et : List ℕ) (ew : List Float) (m' c' : ℕ) (l' o' el' et' : List ℕ) (ew' : List Float)
                → m ≡ m' → c ≡ c' → l ≡ l' → o ≡ o' → el ≡ el' → et ≡ et' → ew ≡ ew'
                → ends (Ok (record { states = states; edges = m; labels = c; initial = initial })) (columns l o el et ew)
                ≡ ends (Ok (record { states = states; edges = m'; labels = c'; initial = initial })) (columns l' o' el' et' ew')
            put m c l o el et ew m' c' l' o' el' et' ew' p q r s t u v = cc

        pub plan_passed : Planned L T W m d
        plan_passed = record {
          within = cut_within;
          fillable = λ {X} {n} x k. rw x (cut_fillable n (k ∙ ap length x));
          built = λ x. rw x cut_built;
        }
