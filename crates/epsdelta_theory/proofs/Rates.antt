-- Rates of accepted models, rounded once at each step: what a sum of them and a rate divided by it are bounded by.
-- A weight need not be a number of the format here: one of 2^-40, 1 and 2^40 is, is not above the weight, and is at most 2^40 times smaller. A sum is no less than this base of each of its
-- parts, so a part divided by the sum is at most 2^40.
use mathlib.Core.Path.{◌≡◌, refl, subst, subst⁻¹}
use Prim.Native.Nat.{ℕ, ◌≤◌, ◌<◌, ◌+◌, ◌*◌, ◌^◌}
use mathlib.Core.Bool.{Bool, true, false, ◌&&◌, ◌||◌}
use mathlib.Core.Logic.{◌⊎◌, inl, inr}
use native.Mathlib.Omega.{arith}
use native.Mathlib.Nat.{le_of_eq, le_of_mul-le-mul_right, mul-le-mul_right, mul-le-mul_left, mul-pos}
use lib.Dec.{T, lit<, lt→ltb, ltb→lt}
use lib.IntN.{negsuc}
use lib.Ieee.{Float, nan, inf, fin, binary64, of_bits, of_fields, lt, le, eq, add, mul, div, round, up, down, fits}
use lib.Ieee.Bits.{is_true}
use lib.Ieee.Fits.{up_pos, add-fits}
use lib.Ieee.Order.{round_mono, le_of_values}
use lib.Ieee.Positive.{num, den, positive, den_pos, own_value, value_pos, le→cross, cross→le, le_trans_positive, between, mul_at, mul_mono}
use Rattle.numbers.specs.Real.{nought, least_weight, greatest_joined}
use Rattle.numbers.proofs.Bools.{lt_or_ge}
use Rattle.numbers.proofs.Constants.{least_weight_is, greatest_joined_is}
use Rattle.numbers.proofs.Floats.{power, Plain, Low, Sized, plain_of, plain_signed, power_cross, power_le, low_round, grow, add_is, add_under, over_left, div_is, div_not_negative}
use Rattle.epsdelta_theory.specs.Epsdelta.{rates_close}

-- a rate, joined of weights, and a number of the format that is its base
pub record Rate (r : Float) : Type 0 where
  pub base : Float
  pub base_positive : T (positive base)
  pub base_fits : T (fits binary64 base)
  pub over : T (le base r)
  pub near : num r * den base ≤ 2 ^ 40 * (num base * den r)
  pub most : T (le r (power 110))

pub rate_positive : (r : Float) → Rate r → T (positive r)
rate_positive r R = between R.base r (power 110) R.base_positive tt R.over R.most

le_self : (x : Float) → T (positive x) → T (le x x)
le_self x p = cross→le x x p p (le_of_eq refl)

-- a number of the format is its own base
own_rate : (x : Float) → T (positive x) → T (fits binary64 x) → T (le x (power 110)) → Rate x
own_rate x p f l = record { base = x; base_positive = p; base_fits = f; over = le_self x p; near = omega arith; most = l }

-- a weight, from 2^-40 to 2^52
pub record Weight (w : Float) : Type 0 where
  pub least : T (le least_weight w)
  pub most : T (le w greatest_joined)

module _ (w : Float) (W : Weight w) where
  least : T (le (fin false 1 (negsuc 39)) w)
  least = subst (λ (x : Float). T (le x w)) least_weight_is W.least

  joined : T (le w (power 52))
  joined = subst (λ (x : Float). T (le w x)) greatest_joined_is W.most

  weight_positive : T (positive w)
  weight_positive = between (fin false 1 (negsuc 39)) w (power 52) tt tt least joined

  low : T (le w (power 110))
  low = le_trans_positive w (power 52) (power 110) weight_positive tt tt joined (power_le 52 110 (omega arith))

  power_below : (b : ℕ) → 2 ^ b * den w ≤ num w → T (le (power b) w)
  power_below b h =
      le_of_values (power b) w (1 * 2 ^ b) 1 (num w) (den w) (lit< tt) (den_pos w) (refl, refl) (own_value w weight_positive) (omega arith)

  pub weight_rate : Rate w
  weight_rate = pick (lt_or_ge (num w) (2 ^ 40 * den w)) (lt_or_ge (num w) (2 ^ 0 * den w))
    where
      above : num w ≤ 2 ^ 52 * den w
      above = power_cross w 52 (plain_signed w (plain_of w weight_positive)) joined

      pick : (num w < 2 ^ 40 * den w) ⊎ (2 ^ 40 * den w ≤ num w) → (num w < 2 ^ 0 * den w) ⊎ (2 ^ 0 * den w ≤ num w) → Rate w
      pick (inr h) k = record { base = power 40; base_positive = tt; base_fits = unfold fits in tt; over = power_below 40 h; near = (let a = above in omega arith); most = low }
      pick (inl h) (inr k) = record { base = power 0; base_positive = tt; base_fits = unfold fits in tt; over = power_below 0 k; near = omega arith; most = low }
      pick (inl h) (inl k) = record { base = fin false 1 (negsuc 39); base_positive = tt; base_fits = unfold fits in tt; over = least; near = omega arith; most = low }

-- ---- sums

round_110 : round binary64 false (2 ^ 110 + 2 ^ 52) 1 ≡ power 110
unfolding round
round_110 = refl

round_200 : round binary64 false (2 ^ 200 + 2 ^ 110) 1 ≡ power 200
unfolding round
round_200 = refl

part_left : (p q u v b d : ℕ) → b * u ≤ p * d → b * (u * v) ≤ (p * v + q * u) * d
part_left p q u v b d h = omega (arith, mul-le-mul_right v h)

part_right : (p q u v b d : ℕ) → b * v ≤ q * d → b * (u * v) ≤ (p * v + q * u) * d
part_right p q u v b d h = omega (arith, mul-le-mul_right u h)

-- equal targets joined: 2^52 is lost beside 2^110
pub join_rate : (x w : Float) → Rate x → Weight w → Rate (add binary64 x w)
join_rate x w R W =
    let p : Plain x = plain_of x (rate_positive x R) in
    let q = plain_signed w (plain_of w (weight_positive w W)) in
    let u = add_under 110 52 round_110 x w p q R.most (joined w W) in
    let g = grow R.base (power 110) (num x * den w + num w * den x) (den x * den w) R.base_positive R.base_fits tt (mul-pos (den_pos x) (den_pos w))
    (part_left (num x) (num w) (den x) (den w) (num R.base) (den R.base) (le→cross R.base x R.base_positive (rate_positive x R) R.over))
    (subst (λ (z : Float). T (le z (power 110))) (add_is x w p q) u) in
    own_rate (add binary64 x w) (subst⁻¹ (λ (z : Float). T (positive z)) (add_is x w p q) g.0) (add-fits binary64 x w) u

-- a sum so far, and an exit rate
abbrev pub Summed : Float → Type 0
Summed x = (x ≡ nought) ⊎ Sized 200 x

summed_plain : (x : Float) → Summed x → Plain x × T (le x (power 200))
summed_plain x (inl e) = subst⁻¹ (λ (y : Float). Plain y × T (le y (power 200))) e (unfold le of_bits in (tt, tt))
summed_plain x (inr (p, f, l)) = (plain_of x p, l)

-- 2^110 is lost beside 2^200
pub summed_add : (x r : Float) → Summed x → (R : Rate r) → Sized 200 (add binary64 x r) × T (le R.base (add binary64 x r))
summed_add x r s R =
    let (p, l) = summed_plain x s in
    let q = plain_signed r (plain_of r (rate_positive r R)) in
    let u = add_under 200 110 round_200 x r p q l R.most in
    let g = grow R.base (power 200) (num x * den r + num r * den x) (den x * den r) R.base_positive R.base_fits tt (mul-pos (den_pos x) (den_pos r))
    (part_right (num x) (num r) (den x) (den r) (num R.base) (den R.base) (le→cross R.base r R.base_positive (rate_positive r R) R.over))
    (subst (λ (z : Float). T (le z (power 200))) (add_is x r p q) u) in
    let h = subst⁻¹ (λ (z : Float). T (positive z) × T (le R.base z)) (add_is x r p q) g in
    ((h.0, add-fits binary64 x r, u), h.1)

pub summed_over : (x r : Float) → Sized 200 x → Rate r → T (le x (add binary64 x r))
summed_over x r (p, f, l) R =
    let q = plain_signed r (plain_of r (rate_positive r R)) in
    (over_left x r (power 200) (plain_of x p) q tt (add_under 200 110 round_200 x r (plain_of x p) q l R.most) p f).1

-- ---- a rate divided by an exit rate that is no less than its base

quotient : (nr dr nb db nx dx : ℕ) → 0 < db → nr * db ≤ 2 ^ 40 * (nb * dr) → nb * dx ≤ nx * db → nr * dx * 1 ≤ 2 ^ 40 * (nx * dr)
quotient nr dr nb db nx dx h a b =
    let m : nr * dx * 1 * db ≤ 2 ^ 40 * (nx * dr) * db = omega (arith, mul-le-mul_right dx a, mul-le-mul_right dr b) in le_of_mul-le-mul_right m h

module _ (r x : Float) (R : Rate r) (s : Summed x) (h : T (le R.base x)) where
  exit_positive : T (positive x)
  exit_positive = between R.base x (power 200) R.base_positive tt h (summed_plain x s).1

  pub divided_not_negative : T (le nought (div binary64 r x))
  divided_not_negative = div_not_negative r x (rate_positive r R) exit_positive

  pub divided_low : Low (div binary64 r x)
  divided_low =
      let p = rate_positive r R in
      let q = exit_positive in
      subst⁻¹ Low (div_is r x p q)
      (subst (λ (z : Float). T (le (round binary64 false (num r * den x) (num x * den r)) z)) low_round
      (round_mono binary64 (num r * den x) (num x * den r) (2 ^ 40) 1 (mul-pos (value_pos x (num x) (den x) q (den_pos x) (own_value x q)) (den_pos r)) (lit< tt)
      (quotient (num r) (den r) (num R.base) (den R.base) (num x) (den x) (den_pos R.base) R.near (le→cross R.base x R.base_positive q h))))

-- ---- an exit rate passes the rate test with itself

self_or : (a b c : Bool) → T b → T c → T ((a && a) || (b && (b && (c && c))))
self_or true b c p q = tt
self_or false true true p q = tt
self_or false true false p q = absurd q
self_or false false c p q = absurd p

zero_lt : (x : Float) → T (positive x) → T (lt nought x)
unfolding lt of_bits of_fields
zero_lt nan p = absurd p
zero_lt (inf s) p = absurd p
zero_lt (fin true m e) p = absurd p
zero_lt (fin false m e) p = lt→ltb (0 * down e) (m * up e * 1) (let h : 0 < m * up e = mul-pos (ltb→lt 0 m p) (up_pos e) in omega arith)

scaled : (p u q v : ℕ) → v ≤ q → p * (u * v) ≤ p * q * u
scaled p u q v h = omega (arith, mul-le-mul_left (p * u) h)

high : mul binary64 (power 200) (power 20) ≡ power 220
unfolding mul round
high = refl

zero_close : (ρ : Float) → rates_close nought nought ρ ≡ true
unfolding rates_close of_bits
zero_close ρ = refl

positive_close : (x ρ : Float) → T (positive x) → T (le x (mul binary64 x ρ)) → rates_close x x ρ ≡ true
unfolding rates_close
positive_close x ρ p m =
    is_true ((eq x nought && eq x nought) || (lt nought x && (lt nought x && (le x (mul binary64 x ρ) && le x (mul binary64 x ρ)))))
    (self_or (eq x nought) (lt nought x) (le x (mul binary64 x ρ)) (zero_lt x p) m)

pub self_close : (x ρ : Float) → T (le (power 0) ρ) → T (le ρ (power 20)) → Summed x → rates_close x x ρ ≡ true
self_close x ρ a b (inl e) = subst⁻¹ (λ (y : Float). rates_close y y ρ ≡ true) e (zero_close ρ)
self_close x ρ a b (inr (p, f, l)) =
    let q : T (positive ρ) = between (power 0) ρ (power 20) tt tt a b in
    let is : mul binary64 x ρ ≡ round binary64 false (num x * num ρ) (den x * den ρ) = mul_at binary64 x ρ (num x) (den x) (num ρ) (den ρ) p q (den_pos x) (den_pos ρ) (own_value x p) (own_value ρ q) in
    let u : T (le (mul binary64 x ρ) (power 220)) = subst (λ (z : Float). T (le (mul binary64 x ρ) z)) high (mul_mono binary64 x (power 200) ρ (power 20) p tt q tt l b) in
    let c : 1 * den ρ ≤ num ρ * 1 = le→cross (power 0) ρ tt q a in
    let g = grow x (power 220) (num x * num ρ) (den x * den ρ) p f tt (mul-pos (den_pos x) (den_pos ρ)) (scaled (num x) (den x) (num ρ) (den ρ) (omega arith)) (subst (λ (z : Float). T (le z (power 220))) is u) in
    positive_close x ρ p (subst⁻¹ (λ (z : Float). T (le x z)) is g.1)
