-- How a plan ends: the labels interned, the checks of `arranged`, and the edges joined make its outcome.
use Rattle.std.specs.Prelude.{Option, Ok, Err}
use Rattle.bisim_core.specs.declared.ids.StateId.{StateId}
use mathlib.Core.Path.{◌≡◌, refl, sym, subst, ap, ◌∙◌}
use mathlib.Core.Bool.{Bool, true, false, ◌||◌}
use mathlib.Core.Logic.{◌⊎◌, inl, inr, ◌≢◌}
use Prim.Native.Nat.{ℕ, zero, suc, min, ◌≤◌, ◌<◌}
use mathlib.Core.List.{List, [], map}
use native.Mathlib.Omega.{arith}
use lib.Dec.{ltb}
use lib.Ieee.{Float, nan}
use lib.ListN.{length, get_or, take, replicate, length-take, length-replicate, get_or-replicate}
use lib.Seq.{length-take-le, get_or-take, take_all}
use borrow.Author.Tests.{lt-ltb, le-ltb, ltb-false}
use Rattle.numbers.specs.Lists.{span, over}
use Rattle.numbers.specs.Refuse.{check}
use Rattle.numbers.specs.Search.{seek}
use Rattle.numbers.proofs.Bools.{lt_or_ge, or_f}
use Rattle.numbers.proofs.Refuses.{check_hit, check_none, hit, none}
use Rattle.bisim_core.specs.Data.{Edge, Transitions}
use Rattle.build_theory.specs.declared.lent.Draft.{Draft}
use Rattle.build_theory.specs.declared.lent.PlanLists.{PlanLists}
use Rattle.build_theory.proofs.Planning.{lists_in}
use Rattle.bisim_edges.proofs.Numbers.{numbers_length}
use Rattle.build_theory.specs.Lent.{transitions_of}
use Rattle.build_theory.proofs.Fronts.{take_least}
use Rattle.build_theory.specs.Edges.{sort_edges, join, nonzero, edges, numbered_at}
use Rattle.bisim_core.proofs.Distinct.{intern_has, distinct_length}
use Rattle.build_theory.specs.Checks.{labels_of, oversized, outside, unweighed, crowded, reach, missing, refusal}
use Rattle.build_theory.proofs.Plan.{Lists, lists, weight_of, laid, shortest, ending, outcome, planned}
use Rattle.build_theory.proofs.Steps.{Interned, Keys, Sorted, Arrangeable, Arranged, rank, joined, Joined}

refused_is : (k r : ℕ) (done : ℕ × ℕ) (old new : Lists) → r ≡ k → k ≢ 0 → ending (Err k) old ≡ outcome r done old new
refused_is zero r done old new e h = absurd (h refl)
refused_is (suc k) r done old new e h = subst (λ (x : ℕ). ending (Err (suc k)) old ≡ outcome x done old new) (sym e) refl

done_is : (r : ℕ) (done : ℕ × ℕ) (old new : Lists) → r ≡ 0 → ending (Ok done) new ≡ outcome r done old new
done_is r done old new e = subst (λ (x : ℕ). ending (Ok done) new ≡ outcome x done old new) (sym e) refl

-- the keys to begin with: a zero for each transition
pub zeros : (given N : ℕ) → given ≤ 4096 → given ≤ N → (given ≤ 4096) × (length {A = ℕ} (take given (replicate N 0)) ≡ given) × ((j : ℕ) → j < given → get_or {A = ℕ} (take given (replicate N 0)) j 0 ≡ 0)
zeros given N m h = (
  m,
  length-take-le given (replicate N 0) (let e = length-replicate {A = ℕ} N 0 in omega arith),
  λ j k. get_or-take given (replicate N 0) j 0 k ∙ get_or-replicate N j 0 0 (omega arith),
)

-- the first of three checks, where the others do not fail
alone : (a b d : Bool) → b ≡ false → d ≡ false → a ≡ (a || (b || d))
alone true b d e f = refl
alone false b d e f = sym (none b d e f)

-- the front of a list, as far as it goes
pub front_is : (n : ℕ) {m : ℕ} (l : List ℕ) → m ≡ min n (length l) → take m l ≡ take n l
front_is n l e = ap (λ k. take k l) e ∙ sym (take_least n l)

-- how much room there is
pub room_is : (S : PlanLists) {m r : ℕ} → m ≡ min (length S.label_values.now) (length S.triples.now) → r ≡ min m (length S.edge_weights.now) → r ≡ shortest (lists_in S)
room_is S e f = let l = numbers_length S.triples.now in omega arith

-- a plan that is asked for
pub record Asked : Type 0 where
  pub states : ℕ
  pub initial : Option StateId
  pub C : Transitions
  pub given : ℕ
  pub short : Bool
  pub M : Lists

abbrev pub asked_of : Draft → Bool → PlanLists → Asked
asked_of D short S = record { states = D.states; initial = D.initial; C = transitions_of D; given = D.given; short = short; M = lists_in S }

module _ (Z : Asked) where
  abbrev states : ℕ
  states = Z.states

  abbrev initial : Option StateId
  initial = Z.initial

  abbrev C : Transitions
  C = Z.C

  abbrev given : ℕ
  given = Z.given

  abbrev short : Bool
  short = Z.short

  abbrev M : Lists
  M = Z.M

  abbrev D : List ℕ
  D = labels_of C given

  abbrev cramped : Bool
  cramped = short || ltb (shortest M) given

  abbrev number : ℕ
  number = refusal states initial C given cramped

  pub too_many : 4096 < given → ending (Err 3) M ≡ planned rank states initial C given short M
  unfolding planned
  too_many h = refused_is 3 number _ M _ (check_hit 3 (oversized states C given) _ (large (ltb 2000 states) (ltb 4096 given) (ltb 256 (length D)) (lt-ltb 4096 given h))) (λ z. omega arith)
    where
      large : (a b d : Bool) → b ≡ true → (a || (b || d)) ≡ true
      large true b d e = refl
      large false b d e = sym (hit b d (sym e))

  -- what is left once the checks are made
  pub record Passed (known K : List ℕ) (count : ℕ) : Type 0 where
    pub labels_fit : (count ≤ length known) × (count ≤ length M.labels)
    pub joinable : Keys K × (length K ≤ length C.weights) × (length K ≤ length M.numbers) × (length K ≤ length M.weights)
    pub done : {L T : List ℕ} {U : List Float} {m : ℕ} → L ≡ over (take count known) M.labels → Joined K C.weights M.numbers M.weights T U m
        → ending (Ok (m, count)) (lists L T U) ≡ planned rank states initial C given short M

  -- what the checks say, by their number
  pub record Checked (known I K : List ℕ) (count : ℕ) (full : Bool) : Type 0 where
    pub refused : {r : ℕ} → Arranged states initial C given full I K r → r ≢ 0 → ending (Err r) M ≡ planned rank states initial C given short M
    pub passed : {r : ℕ} → Arranged states initial C given full I K r → r ≡ 0 → Passed known K count

  -- ---- the labels

  pub many_labels : 256 < length D → ending (Err 3) M ≡ planned rank states initial C given short M
  unfolding planned
  many_labels h = refused_is 3 number _ M _ (check_hit 3 (oversized states C given) _ (third (ltb 2000 states) (ltb 4096 given) (ltb 256 (length D)) (lt-ltb 256 (length D) h))) (λ z. omega arith)
    where
      third : (a b d : Bool) → d ≡ true → (a || (b || d)) ≡ true
      third true b d e = refl
      third false true d e = refl
      third false false d e = e

  -- no more labels than there are places for
  module _ (most : given ≤ 4096) {V known known' I I' : List ℕ} {count : ℕ} (v : V ≡ take given C.labels) (N₀ : Interned V known known' I I' count) (size : length known ≡ 256) (same : length known' ≡ length known) where
    N : Interned (take given C.labels) known known' I I' count
    N = subst (λ (l : List ℕ). Interned l known known' I I' count) v N₀

    count_is : count ≡ length D
    count_is = sym (length-take-le count known' (let r = N.room in omega arith)) ∙ ap length N.front

    -- label ids are below 256, and so are the zeros behind them
    pub arrangeable : length I' ≡ given → ((j : ℕ) → j < given → get_or I j 0 ≡ 0) → Arrangeable given I'
    arrangeable room zeros = record { few = most; room = omega arith; low = λ j k. pick j k (lt_or_ge j (length (take given C.labels))) }
      where
        pick : (j : ℕ) → j < given → (j < length (take given C.labels)) ⊎ (length (take given C.labels) ≤ j) → get_or I' j 0 < 256
        pick j k (inl l) =
            let c = count_is in
            let r = N.room in
            let i = N.ids j l in
            let a = intern_has [] (take given C.labels) j l in
            omega arith
        pick j k (inr l) = let a = N.rest j l in let z = zeros j k in omega arith

    module _ {full : Bool} {least_column least_list : ℕ} (t : least_column ≡ min (length C.sources) (min (length C.labels) (min (length C.targets) (length C.weights)))) (o : least_list ≡ shortest M)
        (w : full ≡ (ltb least_column given || (short || ltb least_list given))) (il : length I' ≡ given) (K : List ℕ) (kl : length K ≡ length I') where
      f : full ≡ (missing C given || cramped)
      f = w ∙ rw (t, o) refl

      module _ {r : ℕ} (A : Arranged states initial C given full I' K r) where
        number_is : r ≡ number
        number_is =
            A.number
            ∙ ap (λ (b : Bool). check 3 b (check 4 (outside states initial C given) (check 5 (unweighed C given) (check 6 (crowded states C given) (check 7 full 0)))))
            (alone (ltb 2000 states) (ltb 4096 given) (ltb 256 (length D)) (le-ltb 4096 given most) (le-ltb 256 (length D) (let c = count_is in let x = N.room in omega arith)))
            ∙ ap (λ (b : Bool). check 3 (oversized states C given) (check 4 (outside states initial C given) (check 5 (unweighed C given) (check 6 (crowded states C given) (check 7 b 0))))) f

        refuses : r ≢ 0 → ending (Err r) M ≡ planned rank states initial C given short M
        unfolding planned
        refuses h = refused_is r number _ M _ (sym number_is) h

        module _ (z : r ≡ 0) where
          unrefused : number ≡ 0
          unrefused = sym number_is ∙ z

          checks : (oversized states C given ≡ false) × ((missing C given || cramped) ≡ false)
          checks =
              let (a, p) = check_none 2 (oversized states C given) _ unrefused in
              let (b, q) = check_none 3 (outside states initial C given) _ p in
              let (c, s) = check_none 4 (unweighed C given) _ q in
              let (d, t) = check_none 5 (crowded states C given) _ s in
              (a, (check_none 6 (missing C given || cramped) _ t).0)

          there : given ≤ min (length C.sources) (min (length C.labels) (min (length C.targets) (length C.weights)))
          there = ltb-false _ _ (or_f (missing C given) cramped checks.1).0

          room : given ≤ shortest M
          room = ltb-false _ _ (or_f short (ltb (shortest M) given) (or_f (missing C given) cramped checks.1).1).1

          fits : (count ≤ length known') × (count ≤ length M.labels)
          fits =
              let e = count_is in
              let x = N.room in
              let d = distinct_length (take given C.labels) in
              let t = length-take given C.labels in
              let m = room in
              (omega arith, omega arith)

          whole : reach C given ≡ given
          whole = let h = there in omega arith

          -- all of the keys
          all : (l : List ℕ) → length l ≡ given → take (reach C given) l ≡ l
          all l e = ap (λ (n : ℕ). take n l) whole ∙ take_all given l (omega arith)

          sorted : Sorted C.sources C.targets I' K
          sorted = subst (λ (k : List ℕ). Sorted C.sources C.targets I' k) (all K (kl ∙ il)) (subst (λ (i : List ℕ). Sorted C.sources C.targets i (take (reach C given) K)) (all I' il) (A.sorted z))

          ids_are : (j : ℕ) → j < given → get_or I' j 0 ≡ seek (get_or C.labels j 0) D
          ids_are j h =
              let g = there in
              let t = length-take given C.labels in
              N.ids j (omega arith) ∙ ap (λ (x : ℕ). seek x D) (get_or-take given C.labels j 0 h)

          edges_are : joined K C.weights ≡ edges C given
          unfolding edges
          edges_are =
              ap (λ (l : List Edge). nonzero (join l)) (sorted.edges C.weights (numbered_at D C) (λ j h.
              ap (λ (x : ℕ). record { source = get_or C.sources j 0; label = x; target = get_or C.targets j 0; weight = get_or C.weights j nan }) (sym (ids_are j (omega arith)))))
              ∙ ap (λ (n : ℕ). nonzero (join (sort_edges (map (numbered_at D C) (span 0 n))))) il

          ends : {L T : List ℕ} {U : List Float} {m : ℕ} → L ≡ over (take count known') M.labels → Joined K C.weights M.numbers M.weights T U m
              → ending (Ok (m, count)) (lists L T U) ≡ planned rank states initial C given short M
          unfolding planned
          ends {L} {T} {U} {m} l J =
              put m count L T U (length (edges C given)) (length D) (over D M.labels) (over (map rank (edges C given)) M.numbers) (over (map weight_of (edges C given)) M.weights)
              (J.count ∙ ap length edges_are) count_is (l ∙ ap (λ (x : List ℕ). over x M.labels) N.front)
              (J.triples ∙ ap (λ (x : List Edge). over (map rank x) M.numbers) edges_are) (J.sums ∙ ap (λ (x : List Edge). over (map weight_of x) M.weights) edges_are)
              ∙ done_is number (length (edges C given), length D) M (laid rank D (edges C given) M) unrefused
            where
              put : (m c : ℕ) (L T : List ℕ) (U : List Float) (m' c' : ℕ) (L' T' : List ℕ) (U' : List Float) → m ≡ m' → c ≡ c' → L ≡ L' → T ≡ T' → U ≡ U'
                  → ending (Ok (m, c)) (lists L T U) ≡ ending (Ok (m', c')) (lists L' T' U')
              put m c L T U m' c' L' T' U' a b d e f = cc

      pub made_checks : Checked known' I' K count full
      made_checks = record {
        refused = λ A. refuses A;
        passed = λ A z. let h = there A z in let m = room A z in record {
          labels_fit = fits A z;
          joinable = ((sorted A z).keys, omega arith, omega arith, omega arith);
          done = ends A z;
        };
      }
