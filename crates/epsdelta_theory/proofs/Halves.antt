-- Halving from 0 and 1 is exact: with k halvings to come the bounds are a / 2^14 and (a + 2^k) / 2^14, and so is each with their middle.
-- So the bounds are wide as long as k is not 0, which is after 14 halvings.
use mathlib.Core.Path.{◌≡◌, refl, sym, subst, subst⁻¹, ap, ◌∙◌}
use Prim.Native.Nat.{ℕ, zero, suc, ◌+◌, ◌-◌, ◌*◌, ◌^◌, ◌≤◌, ◌<◌}
use native.Mathlib.Omega.{arith}
use native.Mathlib.Nat.{lt_of_lt_of_le, mul_assoc, mul-pos, le_of_mul-le-mul_right}
use mathlib.Core.Bool.{Bool, true, false, ◌&&◌, ◌||◌, beq, false≢true}
use borrow.Author.Tests.{lt-ltb, le-ltb}
use lib.Dec.{T, ltb, lit<, lit≤, eqb}
use lib.Pow.{pow_pos, pow-add, pow_mono, shl_lt}
use lib.Ieee.{Float, nan, inf, fin, binary64, of_bits, of_fields, lt, le, eq, add, sub, mul, neg, sum, round, up, down}
use lib.Ieee.Fits.{down_pos}
use lib.Ieee.Exact.{HasValue, round_exact}
use lib.Ieee.Scale.{round_same}
use lib.Ieee.Positive.{num, den, positive, den_pos, value→cross, positive_of_value, mul_at}
use Rattle.numbers.specs.Lists.{every}
use Rattle.numbers.specs.Real.{nought, one, half, fineness, is_valid}
use Rattle.numbers.proofs.Alls.{every_at}
use Rattle.numbers.proofs.Constants.{nought_is, one_is, half_is}
use Rattle.numbers.proofs.Floats.{Plain, plain_signed, add_is}
use Rattle.epsdelta_theory.specs.MinEpsilon.{wide, middle}

-- ---- sums, differences and validity of numbers that are fractions a / c

plain_of_value : (x : Float) (a c : ℕ) → HasValue x false a c → Plain x
plain_of_value nan a c h = absurd h
plain_of_value (inf s) a c h = absurd h
plain_of_value (fin true m e) a c h = absurd (false≢true (sym h.0))
plain_of_value (fin false m e) a c h = tt

add_at : (x y : Float) (a b c : ℕ) → 0 < c → HasValue x false a c → HasValue y false b c → add binary64 x y ≡ round binary64 false (a + b) c
add_at x y a b c z h k =
    let p = value→cross x a c h in
    let q = value→cross y b c k in
    add_is x y (plain_of_value x a c h) (plain_signed y (plain_of_value y b c k))
    ∙ round_same binary64 false (num x * den y + num y * den x) (den x * den y) (a + b) c (mul-pos (den_pos x) (den_pos y)) z (same (num x) (den x) (num y) (den y) p q)
  where
    same : (m d n e : ℕ) → m * c ≡ a * d → n * c ≡ b * e → (m * e + n * d) * c ≡ (a + b) * (d * e)
    same m d n e p q = omega (arith, ap (λ (z : ℕ). z * e) p, ap (λ (z : ℕ). z * d) q)

sub_at : (x y : Float) (a b c : ℕ) → 0 < c → HasValue x false (a + b) c → HasValue y false a c → sub binary64 x y ≡ round binary64 false b c
unfolding sub neg add sum
sub_at nan y a b c z h k = absurd h
sub_at (inf s) y a b c z h k = absurd h
sub_at (fin s m e) nan a b c z h k = absurd k
sub_at (fin s m e) (inf t) a b c z h k = absurd k
sub_at (fin true m e) (fin t n d) a b c z h k = absurd (plain_of_value (fin true m e) (a + b) c h)
sub_at (fin false m e) (fin true n d) a b c z h k = absurd (plain_of_value (fin true n d) a c k)
sub_at (fin false m e) (fin false n d) a b c z h k =
    let A = m * up e * down d in
    let B = n * up d * down e in
    let l = least (m * up e) (down e) (n * up d) (down d) h.1 k.1 in
    rw (le-ltb A B l)
    (round_same binary64 false (A - B) (down e * down d) b c (mul-pos (down_pos e) (down_pos d)) z (same (m * up e) (down e) (n * up d) (down d) l h.1 k.1))
  where
    least : (m d n e : ℕ) → m * c ≡ (a + b) * d → n * c ≡ a * e → n * d ≤ m * e
    least m d n e p q = le_of_mul-le-mul_right {k = c} (omega (arith, ap (λ (z : ℕ). z * e) p, ap (λ (z : ℕ). z * d) q)) z

    same : (m d n e : ℕ) → n * d ≤ m * e → m * c ≡ (a + b) * d → n * c ≡ a * e → (m * e - n * d) * c ≡ b * (d * e)
    same m d n e l p q = over (m * e - n * d) (let r : n * d + (m * e - n * d) ≡ m * e = omega arith in r)
      where
        over : (t : ℕ) → n * d + t ≡ m * e → t * c ≡ b * (d * e)
        over t r = omega (arith, ap (λ (z : ℕ). z * c) r, ap (λ (z : ℕ). z * e) p, ap (λ (z : ℕ). z * d) q)

split : (a l j k : ℕ) → l ≡ j + k → a * 2 ^ l ≡ a * 2 ^ j * 2 ^ k
split a l j k e = ap (λ (i : ℕ). a * 2 ^ i) e ∙ ap (λ (z : ℕ). a * z) (pow-add 2 j k) ∙ sym (mul_assoc a (2 ^ j) (2 ^ k))

-- a / 2^14 is held by the format
exact : (a : ℕ) → a < 2 ^ 53 → HasValue (round binary64 false a (2 ^ 14)) false a (2 ^ 14)
exact a h = round_exact binary64 false a (2 ^ 14) a 1060 (pow_pos 14) h (lt_of_lt_of_le (shl_lt 53 1060 h) (pow_mono {i = 1113} {j = 2098} (lit≤ tt))) (split a 1074 1060 14 refl)

valid_at : (x : Float) (a c : ℕ) → HasValue x false a c → is_valid x ≡ true
unfolding le lt eq of_bits of_fields
valid_at nan a c h = absurd h
valid_at (inf s) a c h = absurd h
valid_at (fin true m e) a c h = absurd (plain_of_value (fin true m e) a c h)
valid_at (fin false m e) a c h = go (0 * 1 * down e) (m * up e * 1) (omega arith)
  where
    go : (p q : ℕ) → p ≡ 0 → ((ltb p q || (eqb p q && (beq false false || eqb p 0))) && true) ≡ true
    go p zero z = rw z
    go p (suc q) z = first (ltb p (suc q)) _ (lt-ltb p (suc q) (omega arith))
      where
        first : (a b : Bool) → a ≡ true → ((a || b) && true) ≡ true
        first a b e = rw e

-- ---- the bounds

pub record Apart (k : ℕ) (lo hi : Float) : Type 0 where
  pub place : ℕ
  pub lower : HasValue lo false place (2 ^ 14)
  pub upper : HasValue hi false (place + 2 ^ k) (2 ^ 14)
  pub inside : place + 2 ^ k ≤ 2 ^ 14
  pub few : k ≤ 14

-- at first
pub apart_first : Apart 14 nought one
apart_first = record {
  place = 0;
  lower = subst⁻¹ (λ (x : Float). HasValue x false 0 (2 ^ 14)) nought_is (refl, refl);
  upper = subst⁻¹ (λ (x : Float). HasValue x false (2 ^ 14) (2 ^ 14)) one_is (refl, refl);
  inside = lit≤ tt;
  few = lit≤ tt;
}

-- 2^k / 2^14 is above 1e-4 where k is not 0
widths : every (λ k. beq (lt fineness (round binary64 false (2 ^ k) (2 ^ 14))) (ltb 0 k)) 15 ≡ true
unfolding every lt round of_bits of_fields
widths = refl

beq_is : (a b : Bool) → beq a b ≡ true → a ≡ b
beq_is true true e = refl
beq_is false false e = refl
beq_is true false e = sym e
beq_is false true e = e

module _ (k : ℕ) (lo hi : Float) (A : Apart k lo hi) where
  -- whether halvings are to come
  pub wide_is : wide lo hi ≡ ltb 0 k
  unfolding wide
  wide_is =
      ap (lt fineness) (sub_at hi lo A.place (2 ^ k) (2 ^ 14) (pow_pos 14) A.upper A.lower)
      ∙ beq_is (lt fineness (round binary64 false (2 ^ k) (2 ^ 14))) (ltb 0 k) (every_at (λ (k : ℕ). beq (lt fineness (round binary64 false (2 ^ k) (2 ^ 14))) (ltb 0 k)) 15 widths k (omega (arith, A.few)))

half_value : HasValue half false 1 2
half_value = subst⁻¹ (λ (x : Float). HasValue x false 1 2) half_is (refl, refl)

half_positive : T (positive half)
half_positive = subst⁻¹ (λ (x : Float). T (positive x)) half_is tt

-- half of (a + b) / 2^14 where a + b is 2 m
half_of : (s : Float) (b m : ℕ) → b ≡ m + m → 0 < b → m < 2 ^ 53 → HasValue s false b (2 ^ 14) → HasValue (mul binary64 half s) false m (2 ^ 14)
half_of s b m e p l h =
    subst⁻¹ (λ (x : Float). HasValue x false m (2 ^ 14))
    (mul_at binary64 half s 1 2 b (2 ^ 14) half_positive (positive_of_value s b (2 ^ 14) h p) (lit< tt) (pow_pos 14) half_value h
    ∙ round_same binary64 false (1 * b) (2 * 2 ^ 14) m (2 ^ 14) (lit< tt) (pow_pos 14) (omega arith))
    (exact m l)

module _ (k : ℕ) (lo hi : Float) (A : Apart (suc k) lo hi) where
  pub still_wide : wide lo hi ≡ true
  still_wide = wide_is (suc k) lo hi A ∙ lt-ltb 0 (suc k) (omega arith)

  -- one place more
  middle_value : HasValue (middle lo hi) false (A.place + 2 ^ k) (2 ^ 14)
  unfolding middle
  middle_value =
      let a = A.place in
      let p = pow_pos k in
      let d : 2 ^ suc k ≡ 2 ^ k + 2 ^ k = omega arith in
      let i = A.inside in
      half_of (add binary64 lo hi) (a + (a + 2 ^ suc k)) (a + 2 ^ k) (omega arith) (omega arith) (omega arith)
      (subst⁻¹ (λ (x : Float). HasValue x false (a + (a + 2 ^ suc k)) (2 ^ 14)) (add_at lo hi a (a + 2 ^ suc k) (2 ^ 14) (pow_pos 14) A.lower A.upper) (exact (a + (a + 2 ^ suc k)) (omega arith)))

  pub middle_valid : is_valid (middle lo hi) ≡ true
  middle_valid = valid_at (middle lo hi) (A.place + 2 ^ k) (2 ^ 14) middle_value

  pub apart_lower : Apart k lo (middle lo hi)
  apart_lower = let d : 2 ^ suc k ≡ 2 ^ k + 2 ^ k = omega arith in let i = A.inside in record { place = A.place; lower = A.lower; upper = middle_value; inside = omega arith; few = omega (arith, A.few) }

  pub apart_upper : Apart k (middle lo hi) hi
  apart_upper =
      let d : 2 ^ suc k ≡ 2 ^ k + 2 ^ k = omega arith in
      let i = A.inside in
      let s : A.place + 2 ^ suc k ≡ A.place + 2 ^ k + 2 ^ k = omega arith in
      record {
        place = A.place + 2 ^ k;
        lower = middle_value;
        upper = subst (λ (b : ℕ). HasValue hi false b (2 ^ 14)) s A.upper;
        inside = omega arith;
        few = omega (arith, A.few);
      }
