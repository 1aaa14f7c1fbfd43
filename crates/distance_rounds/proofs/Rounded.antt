-- A run whose couplings stand in the store: the rounds there are the definition's (`iterate`).
use mathlib.Core.Path.{◌≡◌, refl, sym, subst, ap, ap₂, ◌∙◌}
use Prim.Native.Nat.{ℕ, zero, suc, ◌≤◌, ◌<◌}
use mathlib.Core.Bool.{Bool, true, false, not, ◌||◌}
use mathlib.Core.List.{List, [], ◌++◌, append-nil}
use native.Mathlib.Omega.{arith}
use lib.ListN.{length, get_or, take, drop_of_length-le}
use lib.Seq.{take_all, ext_get_or, get_or-take}
use lib.Ieee.{Float, nan, binary64, mul, le}
use borrow.Author.Tests.{le-leb}
use Rattle.numbers.specs.Real.{nought, tenth}
use Rattle.distance_theory.specs.Couplings.{Metric, room}
use Rattle.distance_theory.specs.Rounds.{many, evaluate, Improvement, Solution, aim, valued, improved_from, after, Round, judged, round, iterate}
use Rattle.distance_theory.specs.Rounds
use Rattle.distance_theory.proofs.Lengths.{evaluate_length}
use Rattle.distance_theory.proofs.Held.{policy_in, policy_length, policy_at}
use Rattle.distance_theory.proofs.Store.{Whole, Stored, round_stored}
use Rattle.distance_words.proofs.Valuing.{evaluated}
use Rattle.distance_values.proofs.Uses.{InStore, evaluated_is}
use Rattle.distance_store.proofs.Kept.{Ready, Keeps, ends_within}
use Rattle.distance_words.proofs.Improving.{Bettered, better_from, best_of_pair, better_if, counted}
use Rattle.distance_words.proofs.Iterating.{Task, Iterated, iterated, values_of, bettered_of, ended, iterate_from}
use Rattle.distance_rounds.proofs.Improved.{Same, improved_same}

-- ---- the store of a run

pub record Serves (G : Metric) (tol : Float) (T : Task) (P₀ : List ℕ) (M₀ : List Float) : Type 0 where
  pub ready : Ready G T.lefts T.rights T.codes T.left T.right
  pub whole : Whole G
  pub count : length G.found ≡ T.pairs
  pub in_lefts : T.pairs ≤ length T.lefts
  pub in_rights : T.pairs ≤ length T.rights
  pub in_cost : T.pairs ≤ length T.cost
  pub cost_is : take T.pairs T.cost ≡ G.cost
  pub gamma_is : T.gamma ≡ G.gamma
  pub aim_is : T.aim ≡ aim G tol
  pub fine_is : T.fine ≡ mul binary64 (aim G tol) tenth
  pub in_places : room G G.found ≤ length P₀
  pub in_masses : room G G.found ≤ length M₀

-- the definition's solution so far, and what stands in the lists
pub record Solves (G : Metric) (S P₀ : List ℕ) (M₀ : List Float) (s : Solution) (w : Iterated) : Type 0 where
  pub residual_is : w.residual ≡ s.residual
  pub rounds_are : w.rounds ≡ s.rounds
  pub values_are : w.values ≡ s.value
  pub values_size : length w.values ≡ length G.found
  pub stored : Stored G s.policy
  pub keeps : Keeps G s.policy (length G.found) S w.lengths w.places w.masses
  pub places_size : length w.places ≡ length P₀
  pub masses_size : length w.masses ≡ length M₀

module _ {G : Metric} {tol : Float} {T : Task} {P₀ : List ℕ} {M₀ : List Float} (Z : Serves G tol T P₀ M₀) where
  abbrev n : ℕ
  n = length G.found

  module _ (s : Solution) (w : Iterated) (U : Solves G T.starts P₀ M₀ s w) where
    K : Keeps G s.policy n T.starts w.lengths w.places w.masses
    K = U.keeps

    policy_is : policy_in T.starts w.lengths w.places w.masses n ≡ s.policy
    policy_is =
        let a = policy_length T.starts w.lengths w.places w.masses n in
        let z = U.stored.size in
        ext_get_or [] (policy_in T.starts w.lengths w.places w.masses n) s.policy (omega arith)
        (λ i h. policy_at T.starts w.lengths w.places w.masses n i (omega arith) ∙ K.shares_are i (omega arith))

    pub in_store : InStore G s.policy T.starts w.lengths w.places w.masses n
    in_store = record {
      pairs = refl;
      stored = U.stored;
      same = policy_is;
      in_starts = K.in_starts;
      in_lengths = K.in_lengths;
      room = λ k h.
          let a = K.start_at k h in let b = K.length_at k h in let c = K.fits k h in let e = ends_within G k h in
          let p = U.places_size in let m = U.masses_size in let i = Z.in_places in let j = Z.in_masses in
          (omega arith, omega arith);
    }

    -- the values
    abbrev u : List Float
    u = values_of T w.values w.lengths w.places w.masses

    values_same : u ≡ valued G tol s
    values_same =
        let c = Z.count in let z = U.values_size in
        let e = evaluated_is in_store T.cost w.values T.gamma T.fine (let i = Z.in_cost in omega arith) (omega arith) (ap (λ (j : ℕ). take j T.cost) c ∙ Z.cost_is) Z.gamma_is refl in
        let l = evaluate_length G s.policy T.fine (take n w.values) in
        let t : take n w.values ≡ w.values = take_all n w.values (omega arith) in
        ap (λ (j : ℕ). (evaluated many T.starts w.lengths w.places w.masses T.cost T.gamma T.fine w.values j).value) (sym c)
        ∙ e.1
        ∙ ap (λ (d : List Float). evaluate G s.policy T.fine (take n w.values) ++ d) (drop_of_length-le w.values {i = length (evaluate G s.policy T.fine (take n w.values))} (let q = ap length t in omega arith))
        ∙ append-nil (evaluate G s.policy T.fine (take n w.values))
        ∙ ap₂ (λ (f : Float) (x : List Float). evaluate G s.policy f x) Z.fine_is (t ∙ U.values_are)

    values_long : length u ≡ n
    values_long = ap length values_same ∙ evaluate_length G s.policy (mul binary64 (aim G tol) tenth) s.value ∙ ap length (sym U.values_are) ∙ U.values_size

    -- the improvement
    abbrev b : Bettered
    b = bettered_of T u w.lengths w.places w.masses

    abbrev r : Improvement
    r = improved_from G (valued G tol s) s.policy

    costs_same : (k : ℕ) → k < n → get_or T.cost k nan ≡ get_or G.cost k nan
    costs_same k h = let c = Z.count in sym (get_or-take T.pairs T.cost k nan (omega arith)) ∙ ap (λ (x : List Float). get_or x k nan) Z.cost_is

    better_same : Same G T.starts w.places w.masses r b
    better_same =
        let c = Z.count in let z = values_long in let a = Z.in_lefts in let d = Z.in_rights in let e = Z.in_cost in let f = K.in_starts in let g = K.in_lengths in
        let p = U.places_size in let m = U.masses_size in let i = Z.in_places in let j = Z.in_masses in
        let q : counted T.pairs (length T.lefts) (length T.rights) (length u) (length T.cost) (length T.starts) (length w.lengths) ≡ true
        = rw (le-leb T.pairs (length T.lefts) a, le-leb T.pairs (length T.rights) d, le-leb T.pairs (length u) (omega arith), le-leb T.pairs (length T.cost) e, le-leb T.pairs (length T.starts) (omega arith), le-leb T.pairs (length w.lengths) (omega arith)) in
        subst (λ (v : List Float). Same G T.starts w.places w.masses (improved_from G v s.policy) b) values_same
        (subst (Same G T.starts w.places w.masses (improved_from G u s.policy))
        (ap (λ (k : ℕ). better_from (best_of_pair T.lefts T.rights T.codes T.left T.right u) u T.gamma T.cost T.starts k 0 nought false w.lengths w.places w.masses) c
        ∙ ap (λ (t : Bool). better_if t (better_from (best_of_pair T.lefts T.rights T.codes T.left T.right u) u T.gamma T.cost T.starts T.pairs 0 nought false w.lengths w.places w.masses) w.lengths w.places w.masses) (sym q))
        (improved_same Z.ready u T.cost T.gamma costs_same Z.gamma_is T.starts w.places w.masses (omega arith) (omega arith) s.policy w.lengths U.stored.size K))

    ended_same : ended T.aim b ≡ Rounds.ended G tol r
    ended_same = ap₂ ◌||◌ (ap not better_same.improved_is) (ap₂ le better_same.residual_is Z.aim_is)

    abbrev made : Iterated
    made = iterated b.residual (suc w.rounds) u b.lengths b.places b.masses

    round_same : Solves G T.starts P₀ M₀ (after (valued G tol s) r s.rounds) made
    round_same = record {
      residual_is = better_same.residual_is;
      rounds_are = ap suc U.rounds_are;
      values_are = values_same;
      values_size = values_long;
      stored = round_stored G Z.whole tol s U.stored;
      keeps = better_same.keeps;
      places_size = better_same.places_size ∙ U.places_size;
      masses_size = better_same.masses_size ∙ U.masses_size;
    }

  pub iterate_same : (j : ℕ) (s : Solution) (w : Iterated) → Solves G T.starts P₀ M₀ s w → Solves G T.starts P₀ M₀ (iterate G tol j s) (iterate_from T j w.residual w.rounds w.values w.lengths w.places w.masses)
  unfolding iterate iterate_from round
  iterate_same zero s w U = U
  iterate_same (suc j) s w U = subst (λ (d : Bool). Solves G T.starts P₀ M₀ (on (judged (Rounds.ended G tol (r s w U)) (after (valued G tol s) (r s w U) s.rounds))) (go d)) (sym (ended_same s w U)) (pick (Rounds.ended G tol (r s w U)) (iterate_same j (after (valued G tol s) (r s w U) s.rounds) (made s w U) (round_same s w U)))
    where
      on : Round → Solution
      on x = elim x as (λ z. Solution) [ Round.again y ↦ iterate G tol j y | Round.last y ↦ y ]

      go : Bool → Iterated
      go d = elim d as (λ z. Iterated) [ true ↦ made s w U | false ↦ iterate_from T j (b s w U).residual (suc w.rounds) (u s w U) (b s w U).lengths (b s w U).places (b s w U).masses ]

      pick : (d : Bool) → Solves G T.starts P₀ M₀ (iterate G tol j (after (valued G tol s) (r s w U) s.rounds)) (iterate_from T j (b s w U).residual (suc w.rounds) (u s w U) (b s w U).lengths (b s w U).places (b s w U).masses)
          → Solves G T.starts P₀ M₀ (on (judged d (after (valued G tol s) (r s w U) s.rounds))) (go d)
      pick true h = round_same s w U
      pick false h = h
