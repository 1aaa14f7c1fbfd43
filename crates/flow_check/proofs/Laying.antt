-- Rows that agree with the node lists of a network hold those lists.
use mathlib.Core.Path.{◌≡◌, refl, sym, ap, subst, ◌∙◌}
use mathlib.Core.Logic.{◌≢◌}
use mathlib.Core.Bool.{Bool, true, false}
use Prim.Native.Nat.{ℕ, zero, suc, ◌+◌, ◌≤◌, ◌<◌}
use mathlib.Core.List.{List, []}
use native.Mathlib.Omega.{arith}
use native.Mathlib.Nat.{le_refl}
use lib.Dec.{eqb}
use lib.ListN.{length, get_or, take, drop, length-drop}
use lib.Pointwise.{pointwise}
use lib.Seq.{slice, ext_get_or, length-take-le, get_or-take, get_or-drop, take-take, take_all}
use Rattle.flow_theory.specs.Network.{out, node_lists}
use borrow.Author.Tests.{eqb-true, eq-eqb, ne_eqb}
use Rattle.flow_theory.proofs.Theorem.{node_lists_length}
use Rattle.flow_theory.proofs.LevelRows.{InRows}
use Rattle.flow_theory.specs.Rows.{network, degrees, starts_of, list_of}
use Rattle.flow_theory.proofs.ListRows.{Indexable, Stands, Stood}
use Rattle.flow_check.specs.Refusal.{same_rows, lists_fit}
use Rattle.flow_theory.proofs.Outs.{network_nodes}
use Rattle.flow_theory.proofs.Enlisted.{sums_first, sizes_node_lists, starts_next, starts_low, joined_length, joins, unjoins}
use Rattle.numbers.proofs.Alls.{every_at, every_of, every_not}
use Rattle.numbers.proofs.Bools.{and_t}
use Rattle.numbers.proofs.Parts.{drop_take}
use Rattle.flow_check.proofs.Checking.{pointwise_every}

module _ {H : List ℕ} {n : ℕ} (K : Indexable H n) where
  abbrev lists : List (List ℕ)
  lists = node_lists H n (length H)

  pub list_length : length (list_of H n) ≡ length H
  list_length = joined_length lists ∙ sizes_node_lists K (length H) (le_refl (length H))

  module _ (starts list : List ℕ) (room : length H ≤ length list) (S : same_rows (suc n) starts (starts_of H n) ≡ true) (L : same_rows (length H) list (list_of H n) ≡ true) where
    start_at : (u : ℕ) → u ≤ n → get_or starts u 0 ≡ get_or (starts_of H n) u 0
    start_at u h = (eqb-true _ _) (every_at _ (suc n) S u (omega arith))

    list_is : take (length H) list ≡ list_of H n
    list_is = ext_get_or 0 (take (length H) list) (list_of H n) (cut ∙ sym list_length)
        (λ i h. get_or-take (length H) list i 0 (rw cut at h) ∙ (eqb-true _ _) (every_at _ (length H) L i (rw cut at h)))
      where
        cut : length (take (length H) list) ≡ length H
        cut = length-take-le (length H) list room

    row_is : (u : ℕ) → u < n → get_or lists u [] ≡ slice (get_or starts u 0) (get_or starts (suc u) 0) list
    row_is u h =
        let b = starts_low K (suc u) h in
        sym (rw (start_at u (omega arith), start_at (suc u) h)
        (ap (drop (get_or (starts_of H n) u 0)) (sym (take-take (get_or (starts_of H n) (suc u) 0) (length H) list b) ∙ ap (take (get_or (starts_of H n) (suc u) 0)) list_is)
        ∙ ap (λ (k : ℕ). drop (get_or (starts_of H n) u 0) (take k (list_of H n))) (starts_next K u h)
        ∙ drop_take (get_or (starts_of H n) u 0) (length (get_or lists u [])) (list_of H n)
        ∙ unjoins lists 0 [] u refl (rw (node_lists_length H n (length H)) h)))

    pub laid : (s t : ℕ) → n ≤ 66 → InRows (network H n s t) H list starts s
    unfolding out
    laid s t few = record {
      heads = refl;
      from = refl;
      places = rw (network_nodes H n) few;
      rows = λ u h. row_is u (rw (network_nodes H n) at h);
      ordered = λ u h. order u (rw (network_nodes H n) at h);
    }
      where
        order : (u : ℕ) → u < n → (get_or starts u 0 ≤ get_or starts (suc u) 0) × (get_or starts (suc u) 0 ≤ length list)
        order u h =
            let a = start_at u (omega arith) in
            let b = start_at (suc u) h in
            let x = starts_next K u h in
            let l = starts_low K (suc u) h in
            (omega arith, omega arith)

-- two tests that pass together are one
same_test : (a b : Bool) → (a ≡ true → b ≡ true) → (b ≡ true → a ≡ true) → a ≡ b
same_test true true f g = refl
same_test true false f g = sym (f refl)
same_test false true f g = g refl
same_test false false f g = refl

never : (b : Bool) → (b ≡ true → ⊥) → false ≡ b
never true f = absurd (f refl)
never false f = refl

-- how the check of node lists ends: the marks at₀ are the starts of the n nodes
module _ {H : List ℕ} {n : ℕ} (K : Indexable H n) (starts list : List ℕ) {at₀ : List ℕ} (z : at₀ ≡ take n starts) where
  mark_at : (u : ℕ) → u < n → get_or at₀ u 0 ≡ get_or starts u 0
  mark_at u h = ap (λ (l : List ℕ). get_or l u 0) z ∙ get_or-take n starts u 0 h

  pub first_fails : get_or starts 0 0 ≢ 0 → false ≡ lists_fit H n starts list
  first_fails d = rw (every_not (λ i. eqb (get_or starts i 0) (get_or (starts_of H n) i 0)) (suc n) 0 (omega arith) (ne_eqb _ _ (λ q. d (q ∙ sums_first 0 (degrees (node_lists H n (length H)))))))

  pub links_fail : (at : List ℕ) → Stood false H n at₀ list at → false ≡ lists_fit H n starts list
  links_fail at f = never (lists_fit H n starts list) (λ t. let (a, b) = and_t (same_rows (suc n) starts (starts_of H n)) (same_rows (length H) list (list_of H n)) t in f
      (λ u h. mark_at u h ∙ (eqb-true _ _) (every_at _ (suc n) a u (omega arith)))
      (λ i h. (eqb-true _ _) (every_at _ (length H) b i h)))

  module _ (first : get_or starts 0 0 ≡ 0) {at : List ℕ} (S : Stands H n at₀ list at (length H)) where
    mark_ends : (u : ℕ) → u < n → get_or at u 0 ≡ get_or starts u 0 + length (get_or (node_lists H n (length H)) u [])
    mark_ends u h = S.at_is u h ∙ ap (λ (k : ℕ). k + length (get_or (node_lists H n (length H)) u [])) (mark_at u h)

    module _ (ends : (u : ℕ) → u < n → get_or at u 0 ≡ get_or starts (suc u) 0) where
      starts_are : (u : ℕ) → u ≤ n → get_or starts u 0 ≡ get_or (starts_of H n) u 0
      starts_are zero h = first ∙ sym (sums_first 0 (degrees (node_lists H n (length H))))
      starts_are (suc u) h =
          sym (ends u h) ∙ mark_ends u h ∙ ap (λ (k : ℕ). k + length (get_or (node_lists H n (length H)) u [])) (starts_are u (omega arith)) ∙ sym (starts_next K u h)

      row_at : (u : ℕ) → u < n → take (length (get_or (node_lists H n (length H)) u [])) (drop (get_or (starts_of H n) u 0) list) ≡ get_or (node_lists H n (length H)) u []
      row_at u h = subst (λ (s : ℕ). take (length (get_or (node_lists H n (length H)) u [])) (drop s list) ≡ get_or (node_lists H n (length H)) u []) (mark_at u h ∙ starts_are u (omega arith)) (S.rows u h)

      whole : take (length H) list ≡ list_of H n
      whole = ap (λ (k : ℕ). take k list) (sym (sizes_node_lists K (length H) (le_refl (length H))))
          ∙ joins (node_lists H n (length H)) 0 list (λ u l. row_at u (rw (← node_lists_length H n (length H)) l))

      fits : lists_fit H n starts list ≡ true
      fits = rw (every_of (λ i. eqb (get_or starts i 0) (get_or (starts_of H n) i 0)) (suc n) (λ i h. (eq-eqb _ _) (starts_are i (omega arith))))
          (every_of (λ i. eqb (get_or list i 0) (get_or (list_of H n) i 0)) (length H) (λ i h. (eq-eqb _ _) (sym (get_or-take (length H) list i 0 h) ∙ ap (λ (l : List ℕ). get_or l i 0) whole)))

    abbrev next : List ℕ
    next = drop 1 starts

    next_at : (u : ℕ) → get_or next u 0 ≡ get_or starts (suc u) 0
    next_at u = get_or-drop 1 starts u 0 ∙ ap (λ (k : ℕ). get_or starts k 0) (let q : 1 + u ≡ suc u = omega arith in q)

    met : same_rows (suc n) starts (starts_of H n) ≡ true → (u : ℕ) → u < n → get_or at u 0 ≡ get_or starts (suc u) 0
    met a u h =
        mark_ends u h ∙ ap (λ (k : ℕ). k + length (get_or (node_lists H n (length H)) u [])) ((eqb-true _ _) (every_at _ (suc n) a u (omega arith)))
        ∙ sym (starts_next K u h) ∙ sym ((eqb-true _ _) (every_at _ (suc n) a (suc u) (omega arith)))

    decide : same_rows n at next ≡ lists_fit H n starts list
    decide = same_test (same_rows n at next) (lists_fit H n starts list)
        (λ t. fits (λ u h. (eqb-true _ _) (every_at (λ i. eqb (get_or at i 0) (get_or next i 0)) n t u h) ∙ next_at u))
        (λ t. let (a, b) = and_t (same_rows (suc n) starts (starts_of H n)) (same_rows (length H) list (list_of H n)) t in every_of (λ i. eqb (get_or at i 0) (get_or next i 0)) n (λ u h. (eq-eqb _ _) (met a u h ∙ sym (next_at u))))

    -- the marks end where the next lists start
    pub ends_decide : (k : ℕ) → k ≡ n → n < length starts → pointwise eqb at (take k next) ≡ lists_fit H n starts list
    ends_decide k q room =
        let d = length-drop 1 starts in
        let m = S.marks in
        ap (λ (x : List ℕ). pointwise eqb x (take k next)) (sym (take_all k at (omega arith))) ∙ pointwise_every at next k (omega arith) (omega arith) ∙ ap (λ (j : ℕ). same_rows j at next) q ∙ decide
