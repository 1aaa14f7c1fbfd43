-- Laws of numbers in a row.
use mathlib.Core.Path.{◌≡◌, refl, ap, ◌∙◌}
use Prim.Native.Nat.{ℕ, zero, suc, ◌+◌, ◌<◌}
use mathlib.Core.List.{map}
use native.Mathlib.Omega.{arith}
use native.Mathlib.Nat.{le_of_suc-le-suc, not-suc-le-zero}
use lib.ListN.{length, get_or}
use Rattle.numbers.specs.Lists.{span}

pub span_length : (i n : ℕ) → length (span i n) ≡ n
unfolding span
span_length i zero = refl
span_length i (suc n) = ap suc (span_length (suc i) n)

pub span_at : (f : ℕ → ℕ) (i n j : ℕ) → j < n → get_or (map f (span i n)) j 0 ≡ f (i + j)
unfolding span
span_at f i zero j h = absurd (not-suc-le-zero h)
span_at f i (suc n) zero h = ap f (let e : i ≡ i + 0 = omega arith in e)
span_at f i (suc n) (suc j) h = span_at f (suc i) n j (le_of_suc-le-suc h) ∙ ap f (let e : suc i + j ≡ i + suc j = omega arith in e)
