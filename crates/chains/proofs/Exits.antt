-- Exit rates: the turns of the loop that adds the weights of a state's edges, and of the loop that keeps the greatest sum.
use mathlib.Core.Path.{◌≡◌, refl, sym, ap, ◌∙◌}
use mathlib.Core.Bool.{Bool}
use Prim.Native.Nat.{ℕ, suc, ◌+◌, ◌-◌, ◌≤◌, ◌<◌}
use mathlib.Core.List.{List, map}
use native.Mathlib.Omega.{arith}
use native.Mathlib.Numerals.{add-one}
use lib.Dec.{eqb}
use lib.Ieee.{Float, of_bits, binary64, add, nan}
use lib.ListN.{get_or}
use borrow.Author.Tests.{eq-eqb, ne_eqb}
use Rattle.numbers.specs.Lists.{span}
use Rattle.numbers.specs.Real.{sum, sum_from}
use Rattle.numbers.specs.Choice.{larger}
use Rattle.bisim_core.specs.Data.{Columns}
use Rattle.bisim_core.specs.Model.{begins, edge_at, row}
use Rattle.bisim_core.specs.declared.wlts.Shape.{Shape}
use Rattle.bisim_core.proofs.Accepted.{Accepted}
use Rattle.epsdelta_theory.proofs.RowReads.{starts_up}
use Rattle.chain_theory.specs.Chain.{counted, leaving, exit_rate, greatest_from}

-- ---- the edges of a state are among those of the model

pub edges_in : {S : Shape} {M : Columns} {s : ℕ} → Accepted S M → s < S.states → begins M (s + 1) ≤ S.edges
edges_in {S} {M} {s} A h = let u = starts_up M.offsets S.states A.begins_rise (s + 1) S.states (omega arith) (omega arith) in let e = A.begins_last in omega arith

-- ---- the weights still to come, of edges i up to b of state s

abbrev pub Left : Columns → ℕ → ℕ → ℕ → List Float
Left M s i b = leaving (map (edge_at M s) (span i (b - i)))

module _ (M : Columns) (s i b : ℕ) (x : Float) (h : i < b) where
  left_next : Left M s i b ≡ counted (eqb (get_or M.edge_targets i 0) s) (get_or M.edge_weights i nan) (Left M s (i + 1) b)
  unfolding span leaving
  left_next =
      let e : b - i ≡ suc (b - (i + 1)) = omega arith in
      ap (λ (n : ℕ). leaving (map (edge_at M s) (span i n))) e
      ∙ ap (λ (n : ℕ). counted (eqb (get_or M.edge_targets i 0) s) (get_or M.edge_weights i nan) (leaving (map (edge_at M s) (span n (b - (i + 1)))))) (sym (add-one i))

  -- a self-loop is passed over
  pub left_skip : get_or M.edge_targets i 0 ≡ s → sum_from x (Left M s (i + 1) b) ≡ sum_from x (Left M s i b)
  left_skip e = sym (ap (sum_from x) (left_next ∙ ap (λ (q : Bool). counted q (get_or M.edge_weights i nan) (Left M s (i + 1) b)) (eq-eqb _ _ e)))

  -- any other edge adds its weight
  pub left_add : (get_or M.edge_targets i 0 ≡ s → ⊥) → sum_from (add binary64 x (get_or M.edge_weights i nan)) (Left M s (i + 1) b) ≡ sum_from x (Left M s i b)
  unfolding sum_from
  left_add e = sym (ap (sum_from x) (left_next ∙ ap (λ (q : Bool). counted q (get_or M.edge_weights i nan) (Left M s (i + 1) b)) (ne_eqb _ _ e)))

pub left_end : (M : Columns) (s i b : ℕ) (x : Float) → i ≡ b → x ≡ sum_from x (Left M s i b)
unfolding span leaving sum_from
left_end M s i b x e = let z : 0 ≡ b - i = omega arith in ap (λ (n : ℕ). sum_from x (leaving (map (edge_at M s) (span i n)))) z

-- what leaves s, by the edges between its two offsets
pub exit_at_lem : (M : Columns) (s a b : ℕ) → a ≡ begins M s → b ≡ begins M (s + 1) → exit_rate (map (edge_at M s) (span a (b - a))) ≡ exit_rate (row M s)
unfolding row
exit_at_lem M s a b p q = rw (p, q)

from_none : (l : List Float) → sum_from (of_bits binary64 0) l ≡ sum l
unfolding sum
from_none l = refl

pub left_start : (M : Columns) (s : ℕ) → sum_from (of_bits binary64 0) (Left M s (begins M s) (begins M (s + 1))) ≡ exit_rate (row M s)
unfolding row exit_rate
left_start M s = from_none (leaving (row M s))

-- ---- the greatest of the numbers still to come, of states s up to n

module _ (f : ℕ → Float) where
  abbrev pub Most : Float → ℕ → ℕ → Float
  Most g s n = greatest_from g (map f (span s (n - s)))

  pub most_next : (g : Float) (s n : ℕ) → s < n → Most (larger g (f s)) (s + 1) n ≡ Most g s n
  unfolding span greatest_from
  most_next g s n h =
      let e : suc (n - (s + 1)) ≡ n - s = omega arith in
      ap (λ (k : ℕ). greatest_from (larger g (f s)) (map f (span k (n - (s + 1))))) (add-one s) ∙ ap (λ (k : ℕ). greatest_from g (map f (span s k))) e

  pub most_end : (g : Float) (s n : ℕ) → s ≡ n → g ≡ Most g s n
  unfolding span greatest_from
  most_end g s n e = let z : 0 ≡ n - s = omega arith in ap (λ (k : ℕ). greatest_from g (map f (span s k))) z
