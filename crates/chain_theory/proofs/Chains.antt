-- The rows of the chain of a model: how many, and which.
use mathlib.Core.Path.{◌≡◌, refl, ap, ◌∙◌}
use Prim.Native.Nat.{ℕ, zero, suc, ◌+◌, ◌<◌}
use mathlib.Core.List.{List, [], ◌∷◌}
use native.Mathlib.Omega.{arith}
use lib.Ieee.{Float}
use lib.ListN.{length, get_or}
use Rattle.bisim_core.specs.Data.{Edge}
use Rattle.chain_theory.specs.Chain.{chain_row, chain_rows}

pub rows_length : (q : Float) (s : ℕ) (M : List (List Edge)) → length (chain_rows q s M) ≡ length M
unfolding chain_rows
rows_length q s [] = refl
rows_length q s (es ∷ M) = ap suc (rows_length q (suc s) M)

rows_from_lem : (q : Float) (s : ℕ) (M : List (List Edge)) (i : ℕ) → i < length M → get_or (chain_rows q s M) i [] ≡ chain_row q (s + i) (get_or M i [])
unfolding chain_rows
rows_from_lem q s [] i h = absurd (omega arith)
rows_from_lem q s (es ∷ M) zero h = let z : s ≡ s + 0 = omega arith in ap (λ (k : ℕ). chain_row q k es) z
rows_from_lem q s (es ∷ M) (suc i) h = let z : suc s + i ≡ s + suc i = omega arith in rows_from_lem q (suc s) M i (omega arith) ∙ ap (λ (k : ℕ). chain_row q k (get_or M i [])) z

pub rows_at : (q : Float) (M : List (List Edge)) (i : ℕ) → i < length M → get_or (chain_rows q 0 M) i [] ≡ chain_row q i (get_or M i [])
rows_at q M i h = let z : 0 + i ≡ i = omega arith in rows_from_lem q 0 M i h ∙ ap (λ (k : ℕ). chain_row q k (get_or M i [])) z
