-- Finite numbers of binary64 as whole numbers of 2^-1074, and the one law of rounding: a sum or a difference below 32 is rounded by at most 2^-49.
use mathlib.Core.Path.{◌≡◌, refl, sym, subst, subst⁻¹, ap, ◌∙◌}
use mathlib.Core.Logic.{◌⊎◌, inl, inr}
use mathlib.Core.Bool.{Bool, true, false, not, ◌&&◌, ◌||◌, cond, true≢false}
use Prim.Native.Nat.{ℕ, zero, suc, ◌≤◌, ◌<◌, ◌+◌, ◌*◌, ◌-◌, ◌/◌, ◌%◌, ◌^◌, compare, Ordering}
use native.Mathlib.Omega.{arith}
use native.Mathlib.Nat.{mul-le-mul_right, mul-pos, mul_assoc, mul-one, zero-mul, mul-div_cancel, le_of_mul-le-mul_right, div-add-mod', mod-lt, lt_of_le_of_lt, lt_of_lt_of_le, le_trans, suc-mul, div-one}
use borrow.Author.Tests.{lt-ltb, le-ltb, ltb-false, eq-eqb}
use lib.Dec.{T, is_le, compare_is_eq, ltb, leb, eqb, leb→le, nleb→lt, eqb→eq, lit≤}
use lib.IntN.{ℤ, pos, negsuc}
use lib.Pow.{pow-add, pow_pos, pow_mono, pow-lt}
use lib.Ieee.{Float, nan, inf, fin, binary64, of_bits, of_fields, lt, le, eq, add, sub, round, size, nearest, up, down, fits}
use lib.Ieee.Digits.{size-le, back}
use lib.Ieee.Fits.{and_l, and_r, down_pos, round-fits}
use lib.Ieee.Exact.{HasValue}
use lib.Ieee.Nearest.{closest, closest_same}
use lib.Ieee.Order.{drop, kept}
use lib.Ieee.Scale.{grid, round_val}
use lib.Ieee.Positive.{num, den, den_pos}
use Rattle.numbers.proofs.Bools.{lt_or_ge}
use Rattle.numbers.specs.Real.{nought, one, eps}
use Rattle.numbers.proofs.Floats.{power, Plain, plain_signed, add_is}
use Rattle.numbers.proofs.Comparisons.{Above, lt_asym, le_not_lt}
use Rattle.flow_duality.specs.Spare.{spare}

-- 2^-49 in these units
unfoldable pub ulp : ℕ
ulp = 2 ^ 1025

-- the whole number of 2^-1074 that a finite number is
unfoldable pub val : Float → ℕ
val x = num x * 2 ^ 1074 / den x

-- finite, not negative, and a number of the format
abbrev pub Whole : Float → Type 0
Whole x = Plain x × T (fits binary64 x)

pub ulp_pos : 0 < ulp
unfolding ulp
ulp_pos = pow_pos 1025

-- ---- to the nearest whole number

near : (d r u q : ℕ) (o : Ordering) → d * u + r ≡ q → r < u → (T (is_le o) → r * 2 ≤ u) → (T (not (is_le o)) → u < r * 2) → (T (compare_is_eq o) → r * 2 ≡ u)
    → (2 * (nearest d o * u) ≤ 2 * q + u) × (2 * q ≤ 2 * (nearest d o * u) + u)
near d r u q Ordering.lt e l a b c = let h = a tt in (omega arith, omega arith)
near d r u q Ordering.eq e l a b c =
    let h = c tt in
    let k : d * u ≤ (d + d % 2) * u = mul-le-mul_right u (let g : d ≤ d + d % 2 = omega arith in g) in
    let j : (d + d % 2) * u ≤ suc d * u = mul-le-mul_right u (let g : d + d % 2 ≤ suc d = omega arith in g) in
    (omega arith, omega arith)
near d r u q Ordering.gt e l a b c = let h = b tt in (omega arith, omega arith)

-- twice the error is at most the unit
pub closest_near : (q u : ℕ) → 0 < u → (2 * (closest q u * u) ≤ 2 * q + u) × (2 * q ≤ 2 * (closest q u * u) + u)
closest_near q u h =
    near (q / u) (q % u) u q (compare (q % u * 2) u) (div-add-mod' q u) (mod-lt q h) (leb→le (q % u * 2) u) (nleb→lt (q % u * 2) u) (eqb→eq (q % u * 2) u)

-- ---- a number that has a value

pub val_of : (x : Float) (g : ℕ) → HasValue x false g (2 ^ 1074) → Plain x × (val x ≡ g)
unfolding val
val_of nan g h = absurd h
val_of (inf s) g h = absurd h
val_of (fin true m e) g h = absurd (true≢false h.0)
val_of (fin false m e) g h = (tt, ap (λ (n : ℕ). n / down e) h.1 ∙ mul-div_cancel g (down_pos e))

-- x is q but for one rounding
abbrev pub Near : Float → ℕ → Type 0
Near x q = Whole x × (val x ≤ q + ulp) × (q ≤ val x + ulp)

few : (k : ℕ) → k ≤ 1079 → k - 53 ≤ 1026
few k h = omega arith

halves : 2 ^ 1026 ≡ 2 * ulp
unfolding ulp
halves = refl

limit : (q : ℕ) → q < 2 ^ 54 * ulp → q < 2 ^ 1079
unfolding ulp
limit q h = h

under : (g q : ℕ) → q < 2 ^ 1079 → g ≤ q + ulp → g < 2 ^ 2098
unfolding ulp
under g q h l = lt_of_le_of_lt l (lt_of_lt_of_le (both q (2 ^ 1079) (2 ^ 1025) h) (lit≤ tt))
  where
    both : (a b d : ℕ) → a < b → a + d < b + d
    both a b d h = omega arith

pub round_near : (a c q : ℕ) → 0 < c → a * 2 ^ 1074 ≡ q * c → q < 2 ^ 54 * ulp → Near (round binary64 false a c) q
round_near a c q C e l =
    let n = a * 2 ^ 1074 in
    let k = drop 53 n c in
    let whole : n / c ≡ q = ap (λ (z : ℕ). z / c) e ∙ mul-div_cancel q C in
    let small : k ≤ 1026 = few (size (n / c)) (size-le (n / c) 1079 (subst⁻¹ (λ (z : ℕ). z < 2 ^ 1079) whole (limit q l))) in
    let unit : 2 ^ k ≤ 2 * ulp = subst (λ (z : ℕ). 2 ^ k ≤ z) halves (pow_mono small) in
    let same : kept 53 n c ≡ closest q (2 ^ k) = closest_same n (c * 2 ^ k) q (2 ^ k) (mul-pos C (pow_pos k)) (pow_pos k) (ap (λ (z : ℕ). z * 2 ^ k) e ∙ mul_assoc q c (2 ^ k)) in
    let (up, dn) = closest_near q (2 ^ k) (pow_pos k) in
    let g : grid binary64 a c ≡ closest q (2 ^ k) * 2 ^ k = ap (λ (z : ℕ). z * 2 ^ k) same in
    let above : grid binary64 a c ≤ q + ulp = omega arith in
    let below : q ≤ grid binary64 a c + ulp = omega arith in
    let (p, v) = val_of (round binary64 false a c) (grid binary64 a c) (round_val binary64 a c (under (grid binary64 a c) q (limit q l) above)) in
    ((p, round-fits binary64 false a c), rw v above, rw v below)

-- ---- a number of the format

exponent : (j k : ℕ) → 2 ^ j ≤ 2 ^ k → j ≤ k
exponent j k h = pick (lt_or_ge k j)
  where
    pick : (k < j) ⊎ (j ≤ k) → j ≤ k
    pick (inl g) = let l : 2 ^ k < 2 ^ j = pow-lt g in absurd (omega arith)
    pick (inr g) = g

divides : (m : ℕ) (e : ℤ) → down e ≤ 2 ^ 1074 → m * up e * 2 ^ 1074 / down e * down e ≡ m * up e * 2 ^ 1074
divides m (pos k) h = mul-one (m * 2 ^ k * 2 ^ 1074 / 1) ∙ div-one (m * 2 ^ k * 2 ^ 1074)
divides m (negsuc k) h =
    let g : suc k ≤ 1074 = exponent (suc k) 1074 h in
    let s : 2 ^ 1074 ≡ 2 ^ (1074 - suc k) * 2 ^ suc k = ap (λ (z : ℕ). 2 ^ z) (sym (back 1074 (suc k) g)) ∙ pow-add 2 (1074 - suc k) (suc k) in
    let f : m * 1 * 2 ^ 1074 ≡ m * 1 * 2 ^ (1074 - suc k) * 2 ^ suc k = ap (λ (z : ℕ). m * 1 * z) s ∙ sym (mul_assoc (m * 1) (2 ^ (1074 - suc k)) (2 ^ suc k)) in
    subst⁻¹ (λ (z : ℕ). z / 2 ^ suc k * 2 ^ suc k ≡ z) f (ap (λ (z : ℕ). z * 2 ^ suc k) (mul-div_cancel (m * 1 * 2 ^ (1074 - suc k)) (pow_pos (suc k))))

-- its whole number over its denominator
pub val_is : (x : Float) → Whole x → val x * den x ≡ num x * 2 ^ 1074
unfolding val fits
val_is nan (p, f) = absurd p
val_is (inf s) (p, f) = absurd p
val_is (fin true m e) (p, f) = absurd p
val_is (fin false zero e) (p, f) = divides zero e (let q : up e * down e ≡ 1 = eqb→eq (up e * down e) 1 f in one_low (up e) (down e) q)
  where
    one_low : (u d : ℕ) → u * d ≡ 1 → d ≤ 2 ^ 1074
    one_low zero d q = absurd (let z : 0 * d ≡ 0 = zero-mul d in omega arith)
    one_low (suc u) d q = le_trans (let r : suc u * d ≡ u * d + d = suc-mul u d in let g : d ≤ 1 = omega arith in g) (pow_pos 1074)
val_is (fin false (suc m) e) (p, f) =
    let a = eqb (suc m % 2) 1 in
    let b = ltb (suc m) (2 ^ 53) in
    let c = leb (down e) (2 ^ 1074) in
    let d = ltb (suc m * up e) (2 ^ 1024 * down e) in
    divides (suc m) e (leb→le (down e) (2 ^ 1074) (and_r (a && b) c (and_l (a && b && c) d f)))

-- ---- sums and differences

sum_over : (p q u v a b P : ℕ) → a * u ≡ p * P → b * v ≡ q * P → (p * v + q * u) * P ≡ (a + b) * (u * v)
sum_over p q u v a b P h k =
    let l : a * u * v ≡ p * P * v = ap (λ (z : ℕ). z * v) h in
    let r : b * v * u ≡ q * P * u = ap (λ (z : ℕ). z * u) k in
    omega arith

pub add_near : (x y : Float) → Whole x → Whole y → val x + val y < 2 ^ 54 * ulp → Near (add binary64 x y) (val x + val y)
add_near x y (p, f) (q, g) l =
    subst⁻¹ (λ (z : Float). Near z (val x + val y)) (add_is x y p (plain_signed y q))
    (round_near (num x * den y + num y * den x) (den x * den y) (val x + val y) (mul-pos (den_pos x) (den_pos y))
    (sum_over (num x) (num y) (den x) (den y) (val x) (val y) (2 ^ 1074) (val_is x (p, f)) (val_is y (q, g))) l)

difference_over : (p q u v a b d P : ℕ) → a * u ≡ p * P → b * v ≡ q * P → d + b ≡ a → 0 < P → (q * u ≤ p * v) × ((p * v - q * u) * P ≡ d * (u * v))
difference_over p q u v a b d P h k e Z =
    let l : a * u * v ≡ p * P * v = ap (λ (z : ℕ). z * v) h in
    let r : b * v * u ≡ q * P * u = ap (λ (z : ℕ). z * u) k in
    let s : (d + b) * (u * v) ≡ a * (u * v) = ap (λ (z : ℕ). z * (u * v)) e in
    let m : q * u * P ≤ p * v * P = omega arith in
    let o : q * u ≤ p * v = le_of_mul-le-mul_right m Z in
    let t : (p * v - q * u + q * u) * P ≡ p * v * P = ap (λ (z : ℕ). z * P) (back (p * v) (q * u) o) in
    (o, omega arith)

sub_is : (x y : Float) → Plain x → Plain y → num y * den x ≤ num x * den y → sub binary64 x y ≡ round binary64 false (num x * den y - num y * den x) (den x * den y)
unfolding sub
sub_is nan y p q h = absurd p
sub_is (inf s) y p q h = absurd p
sub_is (fin true m e) y p q h = absurd p
sub_is (fin false m e) nan p q h = absurd q
sub_is (fin false m e) (inf t) p q h = absurd q
sub_is (fin false m e) (fin true n d) p q h = absurd q
sub_is (fin false m e) (fin false n d) p q h =
    ap (λ (b : Bool). cond b (round binary64 true (n * up d * down e - m * up e * down d) (down e * down d)) (round binary64 (false && ltb (n * up d * down e) (m * up e * down d)) (m * up e * down d - n * up d * down e) (down e * down d)))
    (le-ltb (m * up e * down d) (n * up d * down e) h)

pub sub_near : (x y : Float) (d : ℕ) → Whole x → Whole y → d + val y ≡ val x → val x < 2 ^ 54 * ulp → Near (sub binary64 x y) d
sub_near x y d (p, f) (q, g) e l =
    let (o, s) = difference_over (num x) (num y) (den x) (den y) (val x) (val y) d (2 ^ 1074) (val_is x (p, f)) (val_is y (q, g)) e (pow_pos 1074) in
    subst⁻¹ (λ (z : Float). Near z d) (sub_is x y p q o)
    (round_near (num x * den y - num y * den x) (den x * den y) d (mul-pos (den_pos x) (den_pos y)) s (omega arith))

-- ---- order

below_over : (p q u v a b P : ℕ) → a * u ≡ p * P → b * v ≡ q * P → 0 < u → 0 < v → q * u ≤ p * v → b ≤ a
below_over p q u v a b P h k hu hv o =
    let l : a * u * v ≡ p * P * v = ap (λ (z : ℕ). z * v) h in
    let r : b * v * u ≡ q * P * u = ap (λ (z : ℕ). z * u) k in
    let m : q * u * P ≤ p * v * P = mul-le-mul_right P o in
    let n : b * (u * v) ≤ a * (u * v) = omega arith in
    le_of_mul-le-mul_right n (mul-pos hu hv)

over_below : (p q u v a b P : ℕ) → a * u ≡ p * P → b * v ≡ q * P → 0 < P → b ≤ a → q * u ≤ p * v
over_below p q u v a b P h k Z o =
    let l : a * u * v ≡ p * P * v = ap (λ (z : ℕ). z * v) h in
    let r : b * v * u ≡ q * P * u = ap (λ (z : ℕ). z * u) k in
    let m : b * (u * v) ≤ a * (u * v) = mul-le-mul_right (u * v) o in
    let n : q * u * P ≤ p * v * P = omega arith in
    le_of_mul-le-mul_right n Z

-- not below: no less
pub val_ge : (x y : Float) → Whole x → Whole y → lt x y ≡ false → val y ≤ val x
unfolding lt
val_ge nan y (p, f) w h = absurd p
val_ge (inf s) y (p, f) w h = absurd p
val_ge (fin true m e) y (p, f) w h = absurd p
val_ge (fin false m e) nan w (q, g) h = absurd q
val_ge (fin false m e) (inf t) w (q, g) h = absurd q
val_ge (fin false m e) (fin true n d) w (q, g) h = absurd q
val_ge (fin false m e) (fin false n d) w v h =
    below_over (m * up e) (n * up d) (down e) (down d) (val (fin false m e)) (val (fin false n d)) (2 ^ 1074) (val_is (fin false m e) w) (val_is (fin false n d) v) (down_pos e) (down_pos d) (ltb-false _ _ h)

-- no less: at most
pub val_le : (x y : Float) → Whole x → Whole y → val x ≤ val y → le x y ≡ true
unfolding le lt eq
val_le nan y (p, f) w h = absurd p
val_le (inf s) y (p, f) w h = absurd p
val_le (fin true m e) y (p, f) w h = absurd p
val_le (fin false m e) nan w (q, g) h = absurd q
val_le (fin false m e) (inf t) w (q, g) h = absurd q
val_le (fin false m e) (fin true n d) w (q, g) h = absurd q
val_le (fin false m e) (fin false n d) w v h =
    at_most (m * up e * down d) (n * up d * down e)
    (over_below (n * up d) (m * up e) (down d) (down e) (val (fin false n d)) (val (fin false m e)) (2 ^ 1074) (val_is (fin false n d) v) (val_is (fin false m e) w) (pow_pos 1074) h)
  where
    at_most : (a b : ℕ) → a ≤ b → (ltb a b || (eqb a b && (true || eqb a 0))) ≡ true
    at_most a b h = pick (lt_or_ge a b)
      where
        pick : (a < b) ⊎ (b ≤ a) → (ltb a b || (eqb a b && (true || eqb a 0))) ≡ true
        pick (inl g) = rw (lt-ltb a b g)
        pick (inr g) = let z : a ≡ b = omega arith in rw (le-ltb a b g, eq-eqb a b z)

pub plain_above : (x : Float) → Plain x → Above x
plain_above nan p = p
plain_above (inf s) p = absurd p
plain_above (fin true m e) p = p
plain_above (fin false m e) p = p

pub val_lt : (x y : Float) → Whole x → Whole y → lt x y ≡ true → val x ≤ val y
val_lt x y w v h = val_ge y x v w (lt_asym x y (plain_above x w.0) (plain_above y v.0) h)

pub le_val : (x y : Float) → Whole x → Whole y → le x y ≡ true → val x ≤ val y
le_val x y w v h = val_ge y x v w (le_not_lt x y (plain_above x w.0) (plain_above y v.0) h)

-- ---- constants

pub power_whole : Whole (power 40)
unfolding fits
power_whole = (tt, tt)

pub power_val : 2 ^ 54 * ulp ≤ val (power 40)
unfolding val ulp
power_val = lit≤ tt

pub nought_whole : Whole nought
unfolding fits of_bits of_fields
nought_whole = (tt, tt)

pub nought_val : val nought ≡ 0
unfolding val of_bits of_fields
nought_val = refl

pub one_whole : Whole one
unfolding fits of_bits of_fields
one_whole = (tt, tt)

pub one_val : val one ≡ 2 ^ 49 * ulp
unfolding val ulp of_bits of_fields
one_val = refl

pub eps_whole : Whole eps
unfolding fits of_bits of_fields
eps_whole = (tt, tt)

pub eps_val : val eps ≤ 563 * ulp
unfolding val ulp of_bits of_fields
eps_val = lit≤ tt

pub spare_whole : Whole spare
unfolding fits of_bits of_fields
spare_whole = (tt, tt)

pub spare_val : (517913 * ulp ≤ val spare) × (val spare ≤ 517914 * ulp)
unfolding val ulp of_bits of_fields
spare_val = (lit≤ tt, lit≤ tt)
