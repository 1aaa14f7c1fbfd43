-- The model of built columns is the edges of each state: the edges that leave a state are its row, since the rows hold the edges one after the other.
use mathlib.Core.Path.{◌≡◌, refl, sym, ap, ◌∙◌}
use mathlib.Core.Logic.{◌⊎◌, inl, inr, ◌≢◌}
use mathlib.Core.Bool.{Bool, true, false}
use Prim.Native.Nat.{ℕ, zero, suc, ◌+◌, ◌-◌, ◌≤◌, ◌<◌}
use mathlib.Core.List.{List, [], ◌∷◌, ◌++◌, map, append-nil}
use native.Mathlib.Omega.{arith}
use lib.Dec.{eqb}
use borrow.Author.Tests.{eq-eqb, ne_eqb}
use Rattle.numbers.specs.Lists.{span}
use Rattle.numbers.proofs.Bools.{eq_or_ne}
use Rattle.bisim_core.specs.Data.{Edge, Columns}
use Rattle.bisim_core.specs.Model.{begins, edge_at, row, rows, model}
use Rattle.bisim_core.specs.declared.wlts.Shape.{Shape}
use Rattle.card_models.specs.Models.{chosen, leaving}

leaving_append : (s : ℕ) (E F : List Edge) → leaving s (E ++ F) ≡ leaving s E ++ leaving s F
unfolding leaving
leaving_append s [] F = refl
leaving_append s (a ∷ E) F = pick (leaving_append s E F) (eqb a.source s)
  where
    pick : leaving s (E ++ F) ≡ leaving s E ++ leaving s F → (b : Bool) → chosen b a (leaving s (E ++ F)) ≡ chosen b a (leaving s E) ++ leaving s F
    pick ih true = ap (λ (l : List Edge). a ∷ l) ih
    pick ih false = ih

module _ (M : Columns) where
  own : (s i k : ℕ) → leaving s (map (edge_at M s) (span i k)) ≡ map (edge_at M s) (span i k)
  unfolding leaving span
  own s i zero = refl
  own s i (suc k) = rw (eq-eqb s s refl) (ap (λ (l : List Edge). edge_at M s i ∷ l) (own s (suc i) k))

  away : (x s i k : ℕ) → x ≢ s → leaving s (map (edge_at M x) (span i k)) ≡ []
  unfolding leaving span
  away x s i zero h = refl
  away x s i (suc k) h = rw (ne_eqb x s h) (away x s (suc i) k h)

  later : (k a s : ℕ) → s < a → leaving s (rows M a k) ≡ []
  unfolding leaving rows row
  later zero a s h = refl
  later (suc k) a s h =
      leaving_append s (row M a) (rows M (a + 1) k)
      ∙ ap (λ (l : List Edge). l ++ leaving s (rows M (a + 1) k)) (away a s (begins M a) (begins M (a + 1) - begins M a) (λ e. omega arith))
      ∙ later k (a + 1) s (omega arith)

  leaving_row : (k a s : ℕ) → a ≤ s → s < a + k → leaving s (rows M a k) ≡ row M s
  unfolding rows row
  leaving_row zero a s h j = absurd (omega arith)
  leaving_row (suc k) a s h j = leaving_append s (row M a) (rows M (a + 1) k) ∙ pick (λ g. leaving_row k (a + 1) s g (omega arith)) (eq_or_ne a s)
    where
      pick : (a + 1 ≤ s → leaving s (rows M (a + 1) k) ≡ row M s) → (a ≡ s) ⊎ (a ≢ s) → leaving s (row M a) ++ leaving s (rows M (a + 1) k) ≡ row M s
      pick ih (inl e) =
          ap (λ (l : List Edge). leaving s (row M a) ++ l) (later k (a + 1) s (omega arith)) ∙ append-nil (leaving s (row M a))
          ∙ ap (λ (x : ℕ). leaving s (row M x)) e ∙ own s (begins M s) (begins M (s + 1) - begins M s)
      pick ih (inr e) = ap (λ (l : List Edge). l ++ leaving s (rows M (a + 1) k)) (away a s (begins M a) (begins M (a + 1) - begins M a) e) ∙ ih (omega arith)

  span_map : (f g : ℕ → List Edge) (i k : ℕ) → ((s : ℕ) → i ≤ s → s < i + k → f s ≡ g s) → map f (span i k) ≡ map g (span i k)
  unfolding span
  span_map f g i zero h = refl
  span_map f g i (suc k) h =
      ap (λ (x : List Edge). x ∷ map f (span (suc i) k)) (h i (omega arith) (omega arith)) ∙ ap (λ (l : List (List Edge)). g i ∷ l) (span_map f g (suc i) k (λ s a b. h s (omega arith) (omega arith)))

  -- columns whose rows hold the edges E
  pub model_leaving : (S : Shape) (n : ℕ) (E : List Edge) → S.states ≡ n → rows M 0 n ≡ E → model S M ≡ map (λ s. leaving s E) (span 0 n)
  unfolding model
  model_leaving S n E z e =
      ap (λ (x : ℕ). map (row M) (span 0 x)) z
      ∙ span_map (row M) (λ s. leaving s E) 0 n (λ s a b. sym (leaving_row n 0 s (omega arith) (omega arith)) ∙ ap (leaving s) e)
