-- What no check refuses, and what then holds of the edges: sorting and joining leave edges that rise strictly, whose numbers are those of the transitions, and whose weights are sums of at most 4,096 weights.
use Rattle.std.specs.Prelude.{Option}
use Rattle.bisim_core.specs.declared.ids.StateId.{StateId}
use mathlib.Core.Path.{◌≡◌, refl, subst, ap, ◌∙◌}
use mathlib.Core.Bool.{Bool, true, false, ◌||◌, not}
use Prim.Native.Nat.{ℕ, suc, min, ◌≤◌, ◌<◌}
use mathlib.Core.List.{List, [], ◌∷◌, map}
use native.Mathlib.Omega.{arith}
use lib.Dec.{ltb}
use lib.Ieee.{nan}
use lib.ListN.{length, get_or, take, length-map}
use lib.Seq.{length-take-le, get_or-take}
use borrow.Author.Tests.{ltb-true, ltb-false, not-false}
use Rattle.numbers.specs.Lists.{span, all}
use Rattle.numbers.specs.Real.{is_zero}
use Rattle.numbers.specs.Search.{seek}
use Rattle.numbers.proofs.Alls.{all_front}
use Rattle.numbers.proofs.Bools.{or_f}
use Rattle.numbers.proofs.Refuses.{check_none}
use Rattle.numbers.proofs.Spans.{span_length}
use Rattle.bisim_core.specs.Data.{Edge, Transitions}
use Rattle.bisim_core.specs.Edges.{crowded_in}
use Rattle.build_theory.specs.Edges.{before, put, insert, sort_edges, same, taken, ended, runs, join, keep, nonzero, edges, numbered_at, numbered}
use Rattle.bisim_core.specs.Model.{starts_outside, weighs}
use Rattle.bisim_core.proofs.Distinct.{intern_has}
use Rattle.build_theory.specs.Checks.{labels_of, oversized, outside, unweighed, jump_at, crowded, missing, refusal}
use Rattle.build_theory.proofs.Ranks.{AllE, all_map, all_sorted, all_nonzero, all_kept, all_span, Small, Of, all_join, sort_up, Strict, join_strict, nonzero_strict}
use Rattle.build_theory.proofs.Targets.{joined_crowd, crowd_alike}
use Rattle.build_theory.proofs.Weights.{Fair, fair_of, all_joined}

-- ---- lengths

insert_length : (x : Edge) (l : List Edge) → length (insert x l) ≡ suc (length l)
unfolding insert
insert_length x [] = refl
insert_length x (y ∷ l) = pick (insert_length x l) (before y x)
  where
    pick : length (insert x l) ≡ suc (length l) → (b : Bool) → length (put b x y l (insert x l)) ≡ suc (suc (length l))
    pick ih true = ap suc ih
    pick ih false = refl

sort_length : (l : List Edge) → length (sort_edges l) ≡ length l
unfolding sort_edges
sort_length [] = refl
sort_length (x ∷ l) = insert_length x (sort_edges l) ∙ ap suc (sort_length l)

runs_length : (a : Edge) (l : List Edge) → length (runs a l) ≤ suc (length l)
unfolding runs
runs_length a [] = omega arith
runs_length a (x ∷ l) = pick (same a x) (runs_length (taken true a x) l) (runs_length x l)
  where
    pick : (b : Bool) → length (runs (taken true a x) l) ≤ suc (length l) → length (runs x l) ≤ suc (length l) → length (ended b a (runs (taken b a x) l)) ≤ suc (suc (length l))
    pick true p q = omega arith
    pick false p q = omega arith

join_length : (l : List Edge) → length (join l) ≤ length l
unfolding join
join_length [] = omega arith
join_length (x ∷ l) = runs_length x l

nonzero_length : (l : List Edge) → length (nonzero l) ≤ length l
unfolding nonzero
nonzero_length [] = omega arith
nonzero_length (a ∷ l) = pick (nonzero_length l) (is_zero a.weight)
  where
    pick : length (nonzero l) ≤ length l → (b : Bool) → length (keep b a (nonzero l)) ≤ suc (length l)
    pick ih true = omega arith
    pick ih false = omega arith

-- ---- transitions that no check refuses

pub record Passed (states : ℕ) (initial : Option StateId) (C : Transitions) (given : ℕ) : Type 0 where
  pub three : oversized states C given ≡ false
  pub four : outside states initial C given ≡ false
  pub five : unweighed C given ≡ false
  pub six : crowded states C given ≡ false
  pub there : missing C given ≡ false

pub passes : (states : ℕ) (initial : Option StateId) (C : Transitions) (given : ℕ) (short : Bool) → refusal states initial C given short ≡ 0 → Passed states initial C given × (short ≡ false)
passes states initial C given short e =
    let (a, p) = check_none 2 (oversized states C given) _ e in
    let (b, q) = check_none 3 (outside states initial C given) _ p in
    let (c, r) = check_none 4 (unweighed C given) _ q in
    let (d, t) = check_none 5 (crowded states C given) _ r in
    let (f, g) = or_f (missing C given) short (check_none 6 (missing C given || short) _ t).0 in
    (record { three = a; four = b; five = c; six = d; there = f }, g)

module _ {states : ℕ} {initial : Option StateId} {C : Transitions} {given : ℕ} (P : Passed states initial C given) where
  abbrev D : List ℕ
  D = labels_of C given

  abbrev E : List Edge
  E = edges C given

  pub sizes : (states ≤ 2000) × (given ≤ 4096) × (length D ≤ 256)
  sizes =
      let (a, b) = or_f (ltb 2000 states) (ltb 4096 given || ltb 256 (length D)) P.three in
      let (c, d) = or_f (ltb 4096 given) (ltb 256 (length D)) b in
      (ltb-false _ _ a, ltb-false _ _ c, ltb-false _ _ d)

  columns_in : given ≤ min (length C.sources) (min (length C.labels) (min (length C.targets) (length C.weights)))
  columns_in = ltb-false _ _ P.there

  inside : (starts_outside initial states ≡ false) × (all (λ x. ltb x states) (take given C.sources) ≡ true) × (all (λ x. ltb x states) (take given C.targets) ≡ true)
  inside =
      let (a, b) = or_f (starts_outside initial states) (not (all (λ x. ltb x states) (take given C.sources)) || not (all (λ x. ltb x states) (take given C.targets))) P.four in
      let (p, q) = or_f (not (all (λ x. ltb x states) (take given C.sources))) (not (all (λ x. ltb x states) (take given C.targets))) b in
      (a, not-false _ p, not-false _ q)

  pub start : starts_outside initial states ≡ false
  start = inside.0

  label_low : (j : ℕ) → j < given → seek (get_or C.labels j 0) D < length D
  label_low j h =
      let c = columns_in in
      let l = length-take-le given C.labels (omega arith) in
      subst (λ (x : ℕ). seek x D < length D) (get_or-take given C.labels j 0 h) (intern_has [] (take given C.labels) j (omega arith))

  abbrev A : List Edge
  A = numbered C given

  abbrev pub InRange : ℕ → ℕ → ℕ → Type 0
  InRange s l t = (s < states) × (l < length D) × (t < states)

  numbered_in : AllE (Of InRange) A
  numbered_in = all_span (Of InRange) (numbered_at D C) 0 given (λ j a b. let c = columns_in in (
    ltb-true _ _ (all_front (λ x. ltb x states) C.sources 0 given (omega arith) inside.1 j (omega arith)),
    label_low j (omega arith),
    ltb-true _ _ (all_front (λ x. ltb x states) C.targets 0 given (omega arith) inside.2 j (omega arith)),
  ))

  in_small : (a : Edge) → Of InRange a → Small a
  in_small a h = let (x, y, z) = sizes in let l = h.1 in let t = h.2 in (omega arith, omega arith)

  numbered_small : AllE Small A
  numbered_small = all_map (Of InRange) Small in_small A numbered_in

  numbered_fair : AllE (λ a. Fair 1 a.weight) A
  numbered_fair = all_span (λ a. Fair 1 a.weight) (numbered_at D C) 0 given (λ j a b. let c = columns_in in
      fair_of (get_or C.weights j nan) (all_front weighs C.weights nan given (omega arith) (not-false _ P.five) j (omega arith)))

  numbered_count : length A ≡ given
  numbered_count = length-map (span 0 given) (numbered_at D C) ∙ span_length 0 given

  pub strict : Strict E
  unfolding edges
  strict = nonzero_strict (join (sort_edges A)) (join_strict (sort_edges A) (all_sorted Small A numbered_small) (sort_up A numbered_small))

  pub in_range : AllE (Of InRange) E
  unfolding edges
  in_range = all_nonzero (Of InRange) (join (sort_edges A)) (all_join InRange (sort_edges A) (all_sorted (Of InRange) A numbered_in))

  pub small : AllE Small E
  small = all_map (Of InRange) Small in_small E in_range

  pub fair : AllE (λ a. Fair 4096 a.weight) E
  unfolding edges
  fair = all_nonzero (λ a. Fair 4096 a.weight) (join (sort_edges A))
      (all_joined (sort_edges A) (let e = sort_length A in let f = numbered_count in let (x, y, z) = sizes in omega arith) (all_sorted (λ a. Fair 1 a.weight) A numbered_fair))

  pub not_zero : AllE (λ a. is_zero a.weight ≡ false) E
  unfolding edges
  not_zero = all_kept (join (sort_edges A))

  pub edges_few : length E ≤ given
  unfolding edges
  edges_few = let a = nonzero_length (join (sort_edges A)) in let b = join_length (sort_edges A) in let c = sort_length A in let d = numbered_count in omega arith

  -- the edges have no more targets than the transitions
  pub uncrowded : crowded_in E (span 0 states) ≡ false
  unfolding edges
  uncrowded = joined_crowd A (span 0 states) (crowd_alike (numbered_at D C) (jump_at C) (λ i. (refl, refl, refl)) (span 0 given) (span 0 states)
      ∙ ap (λ (k : ℕ). crowded_in (nonzero (map (jump_at C) (span 0 k))) (span 0 states)) (let c = columns_in in let e : given ≡ min given (min (length C.sources) (min (length C.targets) (length C.weights))) = omega arith in e)
      ∙ P.six)
