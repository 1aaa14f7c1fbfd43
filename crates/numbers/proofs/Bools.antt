-- Tests read as facts, and tests that are put together.
use mathlib.Core.Path.{◌≡◌, refl, sym, subst}
use mathlib.Core.Logic.{◌⊎◌, inl, inr, ◌≢◌}
use mathlib.Core.Bool.{Bool, true, false, ◌&&◌, ◌||◌, false≢true, true≢false}
use Prim.Native.Nat.{ℕ, ◌≤◌, ◌<◌}
use native.Mathlib.Omega.{arith}
use lib.Dec.{T, ltb, eqb}
use borrow.Author.Tests.{ltb-true, ltb-false}

pub lt_or_ge : (m n : ℕ) → (m < n) ⊎ (n ≤ m)
lt_or_ge m n = pick (ltb m n) refl
  where
    pick : (b : Bool) → ltb m n ≡ b → (m < n) ⊎ (n ≤ m)
    pick true e = inl (ltb-true m n e)
    pick false e = inr (ltb-false m n e)

pub and_t : (a b : Bool) → (a && b) ≡ true → (a ≡ true) × (b ≡ true)
and_t true b e = (refl, e)
and_t false b e = absurd (false≢true e)

pub and_f : (a b : Bool) → a ≡ true → (a && b) ≡ false → b ≡ false
and_f true b p e = e
and_f false b p e = absurd (false≢true p)

pub or_r : (a b : Bool) → a ≡ false → (a || b) ≡ true → b ≡ true
or_r true b p e = absurd (true≢false p)
or_r false b p e = e

pub or_f : (a b : Bool) → (a || b) ≡ false → (a ≡ false) × (b ≡ false)
or_f true b e = absurd (true≢false e)
or_f false b e = (refl, e)

pub left_right : (p q r : Bool) → p ≡ true → q ≡ false → r ≡ (p && (q || r))
left_right true true r h k = absurd (true≢false k)
left_right true false r h k = refl
left_right false q r h k = absurd (false≢true h)

pub eq_or_ne : (m n : ℕ) → (m ≡ n) ⊎ (m ≢ n)
eq_or_ne m n = pick (lt_or_ge m n) (lt_or_ge n m)
  where
    pick : (m < n) ⊎ (n ≤ m) → (n < m) ⊎ (m ≤ n) → (m ≡ n) ⊎ (m ≢ n)
    pick (inl p) q = inr (λ e. omega arith)
    pick (inr p) (inl q) = inr (λ e. omega arith)
    pick (inr p) (inr q) = inl (omega arith)

-- tests that are put together
pub or_first : (a b : Bool) → a ≡ true → a ≡ (a || b)
or_first true b e = refl
or_first false b e = absurd (false≢true e)

pub or_second : (a b d : Bool) → a ≡ false → b ≡ true → d ≡ (a || (b && d))
or_second true b d e f = absurd (true≢false e)
or_second false true d e f = refl
or_second false false d e f = absurd (false≢true f)

pub or_third : (a b d : Bool) → a ≡ false → b ≡ false → b ≡ (a || (b && d))
or_third true b d e f = absurd (true≢false e)
or_third false true d e f = absurd (true≢false f)
or_third false false d e f = refl

pub and_second : (a b r : Bool) → a ≡ true → r ≡ b → r ≡ (a && b)
and_second true b r e f = f
and_second false b r e f = absurd (false≢true e)

pub and_first : (a b : Bool) → a ≡ false → a ≡ (a && b)
and_first true b e = absurd (true≢false e)
and_first false b e = refl

pub or_t : (a b : Bool) → (a || b) ≡ true → (a ≡ true) ⊎ (b ≡ true)
or_t true b e = inl refl
or_t false b e = inr e

-- ---- a test as a type, as the library's laws of floats have it; back by its `is_true` (lib.Ieee.Bits)

pub t_of : {b : Bool} → b ≡ true → T b
t_of e = subst T (sym e) tt

-- ---- a test as a number

abbrev pub one_if : Bool → ℕ
one_if true = 1
one_if false = 0

pub one_if_le : (b : Bool) → one_if b ≤ 1
one_if_le true = omega arith
one_if_le false = omega arith

pub one_if_test : (b : Bool) → eqb (one_if b) 1 ≡ b
one_if_test true = refl
one_if_test false = refl
