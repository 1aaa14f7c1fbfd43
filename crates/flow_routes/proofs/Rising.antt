-- The links of a node stand in its list in rising order, since they were entered in order.
use mathlib.Core.Path.{◌≡◌, sym, ap, subst⁻¹, ◌∙◌}
use Prim.Native.Nat.{ℕ, zero, suc, ◌≤◌, ◌<◌}
use mathlib.Core.Logic.{◌≢◌, ◌⊎◌, inl, inr}
use mathlib.Core.List.{List, [], ◌∷◌, ◌++◌}
use native.Mathlib.Omega.{arith}
use native.Mathlib.Nat.{not-suc-le-zero}
use lib.ListN.{length, get_or, length-append, get_or-append}
use lib.Seq.{get_or-append_seam}
use Rattle.numbers.specs.Lists.{In}
use Rattle.numbers.proofs.Bools.{eq_or_ne, lt_or_ge}
use Rattle.numbers.proofs.Members.{in_at}
use Rattle.flow_theory.specs.Network.{rev, Net, nodes, links, out, node_lists}
use Rattle.flow_theory.proofs.Theorem.{row, empty, enter_in, enter_other, enter_off, node_lists_length, enlisted}

abbrev pub Rising : List ℕ → Type 0
Rising l = (i j : ℕ) → i < j → j < length l → get_or l i 0 < get_or l j 0

rising_snoc : (l : List ℕ) (e : ℕ) → Rising l → ((a : ℕ) → In a l → a < e) → Rising (l ++ (e ∷ []))
rising_snoc l e r below i j h k = pick (lt_or_ge j (length l))
  where
    pick : (j < length l) ⊎ (length l ≤ j) → get_or (l ++ (e ∷ [])) i 0 < get_or (l ++ (e ∷ [])) j 0
    pick (inl g) =
        let p = get_or-append l (e ∷ []) 0 i (omega arith) in
        let q = get_or-append l (e ∷ []) 0 j g in
        let b = r i j h g in
        omega arith
    pick (inr g) =
        let n = length-append l (e ∷ []) in
        let z : j ≡ length l = omega arith in
        let p = get_or-append l (e ∷ []) 0 i (omega arith) in
        let q : get_or (l ++ (e ∷ [])) j 0 ≡ e = ap (λ (x : ℕ). get_or (l ++ (e ∷ [])) x 0) z ∙ get_or-append_seam l e [] 0 in
        let b = below (get_or l i 0) (in_at l i 0 (omega arith)) in
        omega arith

module _ (H : List ℕ) (n : ℕ) where
  lists_rise : (k u : ℕ) → Rising (row (node_lists H n k) u)
  unfolding node_lists
  lists_rise zero u = subst⁻¹ Rising (empty n u) (λ i j h k. absurd (not-suc-le-zero k))
  lists_rise (suc e) u = pick (lists_rise e u) (eq_or_ne u (get_or H (rev e) 0)) (lt_or_ge (get_or H (rev e) 0) n)
    where
      pick : Rising (row (node_lists H n e) u) → (u ≡ get_or H (rev e) 0) ⊎ (u ≢ get_or H (rev e) 0) → (get_or H (rev e) 0 < n) ⊎ (n ≤ get_or H (rev e) 0) → Rising (row (node_lists H n (suc e)) u)
      pick r (inl p) (inl h) =
          subst⁻¹ Rising (ap (row (node_lists H n (suc e))) p ∙ enter_in (node_lists H n e) (get_or H (rev e) 0) e (rw (node_lists_length H n e) h))
          (rising_snoc (row (node_lists H n e) (get_or H (rev e) 0)) e (subst⁻¹ (λ (x : ℕ). Rising (row (node_lists H n e) x)) (sym p) r) (λ a i. (enlisted H n e (get_or H (rev e) 0) a i).0))
      pick r (inl p) (inr h) = subst⁻¹ Rising (enter_off (node_lists H n e) (get_or H (rev e) 0) e u (rw (node_lists_length H n e) h)) r
      pick r (inr d) b = subst⁻¹ Rising (enter_other (node_lists H n e) (get_or H (rev e) 0) e u d) r

pub out_rising : (N : Net) → N.lists ≡ node_lists N.heads (nodes N) (links N) → (u : ℕ) → Rising (out N u)
unfolding out
out_rising N e u = subst⁻¹ (λ (ls : List (List ℕ)). Rising (row ls u)) e (lists_rise N.heads (nodes N) (links N) u)

-- a lower number stands before a higher one
pub stands_before : (l : List ℕ) → Rising l → (i j : ℕ) → i < length l → j < length l → get_or l i 0 < get_or l j 0 → i < j
stands_before l r i j hi hj h = pick (lt_or_ge i j) (eq_or_ne i j)
  where
    pick : (i < j) ⊎ (j ≤ i) → (i ≡ j) ⊎ (i ≢ j) → i < j
    pick (inl g) e = g
    pick (inr g) (inl e) = let q = ap (λ (x : ℕ). get_or l x 0) e in absurd (omega arith)
    pick (inr g) (inr d) = let b = r j i (omega arith) hi in absurd (omega arith)
