-- The facts of binary64 that only a flow run rests on: x - x is not above 1e-12, and a difference of numbers up to 2^40 is at most 2^40.
use mathlib.Core.Path.{◌≡◌, refl, subst, subst⁻¹}
use Prim.Native.Nat.{ℕ, zero, suc, ◌≤◌, ◌<◌, ◌+◌, ◌*◌, ◌-◌, ◌^◌}
use mathlib.Core.Bool.{Bool, true, false, ◌&&◌, ◌||◌, cond}
use mathlib.Core.Logic.{◌⊎◌, inl, inr}
use native.Mathlib.Omega.{arith}
use native.Mathlib.Nat.{mul-le-mul_right, mul-pos}
use borrow.Author.Tests.{le-ltb}
use lib.Dec.{T, eqb, ltb, lt→ltb}
use lib.IntN.{ℤ, pos}
use lib.Ieee.{Float, nan, inf, fin, binary64, of_bits, of_fields, lt, le, eq, sub, round, units, odd, up, down, low}
use lib.Ieee.Fits.{down_pos, round_is}
use lib.Ieee.Order.{round_mono}
use Rattle.numbers.specs.Real.{eps}
use Rattle.numbers.proofs.Floats.{Plain, Low, zero_round, low_round, power_cross, plain_signed}
use Rattle.numbers.proofs.Comparisons.{above_eps, above_cases}

pub above_low : (x : Float) → lt eps x ≡ true → Low x → Plain x
above_low x h l = pick (above_cases x (Rattle.numbers.proofs.Comparisons.above_eps x h))
  where
    pick : Plain x ⊎ (x ≡ inf false) → Plain x
    pick (inl p) = p
    pick (inr e) = absurd (unfold le in (subst (λ (y : Float). Low y) e l))

self_zero : (a c : ℕ) → 0 < c → cond (ltb a a) (round binary64 true (a - a) c) (round binary64 (false && ltb a a) (a - a) c) ≡ fin false 0 (pos 0)
self_zero a c h = let z : a - a ≡ 0 = omega arith in rw (le-ltb a a (omega arith), z, zero_round false c h)

none_above : lt eps (fin false 0 (pos 0)) ≡ false
unfolding lt of_bits of_fields
none_above = refl

pub sub_self : (x : Float) → Plain x → lt eps (sub binary64 x x) ≡ false
unfolding sub
sub_self nan p = absurd p
sub_self (inf s) p = absurd p
sub_self (fin true m e) p = absurd p
sub_self (fin false m e) p =
    subst⁻¹ (λ (y : Float). lt eps y ≡ false) (self_zero (m * up e * down e) (down e * down e) (mul-pos (down_pos e) (down_pos e))) (none_above)

or_l : (a b : Bool) → T a → T (a || b)
or_l true b t = tt
or_l false b t = elim t [ ]

neg_low : (m : ℕ) (e : ℤ) → Low (fin true m e)
unfolding le lt eq
neg_low m e =
    let a = m * up e * 1 in
    let b = 1 * 2 ^ 40 * down e in
    or_l (ltb 0 (a + b)) (eqb a b && (false || eqb a 0)) (lt→ltb 0 (a + b) (positive a (down e) (down_pos e)))
  where
    positive : (a d : ℕ) → 0 < d → 0 < a + 1 * 2 ^ 40 * d
    positive a d h = omega arith

units_low : (q k : ℕ) → Low (units binary64 true q k)
unfolding units odd
units_low q k = go (ltb (q * 2 ^ k) (2 ^ (low binary64 + 1024))) q
  where
    go : (b : Bool) (r : ℕ) → Low (cond b (odd 54 true r k (low binary64)) (inf true))
    go true zero = neg_low 0 (pos 0)
    go true (suc r) = neg_low _ _
    go false r = unfold le in tt

diff_low : (a b c : ℕ) → 0 < c → a ≤ 2 ^ 40 * c → Low (cond (ltb a b) (round binary64 true (b - a) c) (round binary64 (false && ltb b a) (a - b) c))
diff_low a b c h l = go (ltb a b)
  where
    go : (x : Bool) → Low (cond x (round binary64 true (b - a) c) (round binary64 false (a - b) c))
    go true = subst⁻¹ Low (round_is binary64 true (b - a) c) (units_low _ _)
    go false = subst (λ (z : Float). T (le (round binary64 false (a - b) c) z)) low_round (round_mono binary64 (a - b) c (2 ^ 40) 1 h (omega arith) (omega arith))

scale : (a b d : ℕ) → a ≤ 2 ^ 40 * b → a * d ≤ 2 ^ 40 * (b * d)
scale a b d h = omega (arith, mul-le-mul_right d h)

pub sub_low : (x y : Float) → Plain x → Plain y → Low x → Low (sub binary64 x y)
unfolding sub
sub_low nan y p q l = absurd p
sub_low (inf s) y p q l = absurd p
sub_low (fin true m e) y p q l = absurd p
sub_low (fin false m e) nan p q l = absurd q
sub_low (fin false m e) (inf t) p q l = absurd q
sub_low (fin false m e) (fin true n d) p q l = absurd q
sub_low (fin false m e) (fin false n d) p q l =
    diff_low (m * up e * down d) (n * up d * down e) (down e * down d) (mul-pos (down_pos e) (down_pos d)) (scale (m * up e) (down e) (down d) (power_cross (fin false m e) 40 (plain_signed (fin false m e) tt) l))
