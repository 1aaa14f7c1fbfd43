-- Sums and quotients of numbers that are not negative, rounded once: what bounds them.
-- A number that fits is not changed by rounding, and rounding keeps order, so a sum is no less than each of its parts, and a bound of the exact value that fits bounds the rounded one.
use mathlib.Core.Path.{◌≡◌, refl, sym, subst, subst⁻¹, ap, ◌∙◌}
use mathlib.Core.Logic.{◌⊎◌, inl, inr}
use mathlib.Core.Bool.{Bool, true, false, ◌&&◌, ◌||◌, cond, false≢true}
use Prim.Native.Nat.{ℕ, zero, suc, ◌≤◌, ◌<◌, ◌+◌, ◌*◌, ◌-◌, ◌%◌, ◌^◌}
use native.Mathlib.Omega.{arith}
use native.Mathlib.Nat.{le_of_lt, le_of_eq, lt_of_lt_of_le, mul-le-mul_right, mul-pos, mul_assoc, mul_comm, add-mul, mul-one, zero-mul}
use borrow.Author.Tests.{le-ltb, ne_eqb}
use lib.Dec.{T, eqb, ltb, leb, eqb→eq, ltb→lt, leb→le, lit<}
use lib.IntN.{ℤ, pos, negsuc}
use lib.Pow.{pow-add, pow_pos, pow-lt, pow_mono, shl_lt}
use lib.Ieee.{Float, nan, inf, fin, binary64, of_bits, of_fields, lt, le, eq, add, div, sum, round, up, down, fits}
use lib.Ieee.Fits.{and_l, and_r, up_pos}
use lib.Ieee.Order.{round_mono, le_of_values}
use lib.Ieee.Exact.{HasValue, round_exact}
use lib.Ieee.Digits.{back}
use lib.Ieee.Scale.{round_same}
use lib.Ieee.Positive.{num, den, positive, den_pos, own_value, value_pos, positive_of_value, le→cross, le_trans_positive, between}
use Rattle.numbers.specs.Real.{nought}
use Rattle.numbers.proofs.Bools.{lt_or_ge}

-- 2 ^ b
abbrev pub power : ℕ → Float
power b = fin false 1 (pos b)

-- finite and not negative, -0 left out
abbrev pub Plain : Float → Type 0
Plain nan = ⊥
Plain (inf s) = ⊥
Plain (fin false m e) = Unit {0}
Plain (fin true m e) = ⊥

-- finite and not negative, -0 included
abbrev pub Signed : Float → Type 0
Signed nan = ⊥
Signed (inf s) = ⊥
Signed (fin s m e) = s ≡ true → m ≡ 0

-- at most 2 ^ 40, the greatest weight, capacity and mass
abbrev pub Low : Float → Type 0
Low x = T (le x (power 40))

-- positive, held by the format, and at most 2 ^ b
abbrev pub Sized : ℕ → Float → Type 0
Sized b x = T (positive x) × T (fits binary64 x) × T (le x (power b))

pub plain_of : (x : Float) → T (positive x) → Plain x
plain_of nan p = absurd p
plain_of (inf s) p = absurd p
plain_of (fin true m e) p = absurd p
plain_of (fin false m e) p = tt

pub plain_signed : (x : Float) → Plain x → Signed x
plain_signed nan p = p
plain_signed (inf s) p = p
plain_signed (fin true m e) p = absurd p
plain_signed (fin false m e) p = λ t. absurd (false≢true t)

pub first_zero : (m u : ℕ) → 0 < u → m * u ≡ 0 → m ≡ 0
first_zero zero u h e = refl
first_zero (suc m) u h e = let p : 0 < suc m * u = mul-pos (omega arith) h in absurd (omega arith)

-- from 0 to 2 ^ b
pub signed_of : (x : Float) (b : ℕ) → T (le nought x) → T (le x (power b)) → Signed x
unfolding le lt eq of_bits of_fields
signed_of nan b h k = h
signed_of (inf true) b h k = h
signed_of (inf false) b h k = k
signed_of (fin false m e) b h k = λ t. absurd (false≢true t)
signed_of (fin true m e) b h k = λ t.
    let z : 0 * 1 * down e ≡ m * up e * 1 = eqb→eq (0 * 1 * down e) (m * up e * 1) (and_l (eqb (0 * 1 * down e) (m * up e * 1)) (eqb (0 * 1 * down e) 0) h) in
    first_zero m (up e) (up_pos e) (omega arith)

-- ---- bounds as fractions

le_cross : (a b : ℕ) → T (ltb a b || (eqb a b && true)) → a ≤ b
le_cross a b t = pick (ltb a b) refl t
  where
    pick : (c : Bool) → ltb a b ≡ c → T (c || (eqb a b && true)) → a ≤ b
    pick true e t = le_of_lt (ltb→lt a b (subst T (sym e) tt))
    pick false e t = le_of_eq (eqb→eq a b (and_l (eqb a b) true t))

pub power_cross : (x : Float) (b : ℕ) → Signed x → T (le x (power b)) → num x ≤ 2 ^ b * den x
unfolding le lt eq
power_cross nan b p t = absurd p
power_cross (inf s) b p t = absurd p
power_cross (fin true m e) b p t = let z : m * up e ≡ 0 = ap (λ (n : ℕ). n * up e) (p refl) ∙ zero-mul (up e) in omega arith
power_cross (fin false m e) b p t = let h : m * up e * 1 ≤ 1 * 2 ^ b * down e = le_cross (m * up e * 1) (1 * 2 ^ b * down e) t in omega arith

pub power_le : (b c : ℕ) → b ≤ c → T (le (power b) (power c))
power_le b c h = le_of_values (power b) (power c) (1 * 2 ^ b) 1 (1 * 2 ^ c) 1 (lit< tt) (lit< tt) (refl, refl) (refl, refl) (let g : 2 ^ b ≤ 2 ^ c = pow_mono h in omega arith)

-- ---- rounding

pub zero_round : (s : Bool) (c : ℕ) → 0 < c → round binary64 s 0 c ≡ fin s 0 (pos 0)
zero_round s c h = round_same binary64 s 0 c 0 1 h (omega arith) (omega arith) ∙ at_one s
  where
    at_one : (s : Bool) → round binary64 s 0 1 ≡ fin s 0 (pos 0)
    at_one true = unfold round in refl
    at_one false = unfold round in refl

pub one_round : round binary64 false (2 ^ 0) 1 ≡ power 0
unfolding round
one_round = refl

pub low_round : round binary64 false (2 ^ 40) 1 ≡ power 40
unfolding round
low_round = refl

exponent : (j k : ℕ) → 2 ^ j ≤ 2 ^ k → j ≤ k
exponent j k h = pick (lt_or_ge k j)
  where
    pick : (k < j) ⊎ (j ≤ k) → j ≤ k
    pick (inl g) = let l : 2 ^ k < 2 ^ j = pow-lt g in absurd (omega arith)
    pick (inr g) = g

times_one : (a b : ℕ) → a < b * 1 → a < b
times_one a b h = omega arith

own : (m : ℕ) (e : ℤ) → m < 2 ^ 53 → down e ≤ 2 ^ 1074 → m * up e < 2 ^ 1024 * down e → HasValue (round binary64 false (m * up e) (down e)) false (m * up e) (down e)
own m (pos k) a b c =
    round_exact binary64 false (m * 2 ^ k) 1 m (k + 1074) (lit< tt) a
    (let g : m * 2 ^ k * 2 ^ 1074 < 2 ^ (1024 + 1074) = shl_lt 1024 1074 (times_one (m * 2 ^ k) (2 ^ 1024) c) in rw (pow-add 2 k 1074, ← mul_assoc) g)
    (rw (pow-add 2 k 1074) (mul_assoc m (2 ^ k) (2 ^ 1074) ∙ sym (mul-one (m * (2 ^ k * 2 ^ 1074)))))
own m (negsuc k) a b c =
    let h : suc k ≤ 1074 = exponent (suc k) 1074 b in
    round_exact binary64 false (m * 1) (2 ^ suc k) m (1074 - suc k) (pow_pos (suc k)) a
    (let g : m * 2 ^ (1074 - suc k) < 2 ^ (53 + (1074 - suc k)) = shl_lt 53 (1074 - suc k) a in
    let r : 53 + (1074 - suc k) ≤ 1074 + 1024 = omega arith in lt_of_lt_of_le g (pow_mono {i = 53 + (1074 - suc k)} {j = 1074 + 1024} r))
    (rw (mul-one, mul_assoc, ← pow-add, back) refl)

-- a number that fits has its own value after rounding
pub own_round : (x : Float) → T (positive x) → T (fits binary64 x) → HasValue (round binary64 false (num x) (den x)) false (num x) (den x)
unfolding fits
own_round nan p f = absurd p
own_round (inf s) p f = absurd p
own_round (fin true m e) p f = absurd p
own_round (fin false zero e) p f = absurd p
own_round (fin false (suc m) e) p f =
    let a = eqb (suc m % 2) 1 in
    let b = ltb (suc m) (2 ^ 53) in
    let c = leb (down e) (2 ^ 1074) in
    let d = ltb (suc m * up e) (2 ^ 1024 * down e) in
    let abc = and_l (a && b && c) d f in
    own (suc m) e (ltb→lt (suc m) (2 ^ 53) (and_r a b (and_l (a && b) c abc))) (leb→le (down e) (2 ^ 1074) (and_r (a && b) c abc)) (ltb→lt (suc m * up e) (2 ^ 1024 * down e) (and_r (a && b && c) d f))

-- a fraction that is no less than w, rounded, and bounded then: positive, and no less than w
pub grow : (w hi : Float) (a c : ℕ) → T (positive w) → T (fits binary64 w) → T (positive hi) → 0 < c → num w * c ≤ a * den w → T (le (round binary64 false a c) hi)
    → T (positive (round binary64 false a c)) × T (le w (round binary64 false a c))
grow w hi a c p f q C h l =
    let v : Float = round binary64 false (num w) (den w) in
    let z : Float = round binary64 false a c in
    let val : HasValue v false (num w) (den w) = own_round w p f in
    let np : 0 < num w = value_pos w (num w) (den w) p (den_pos w) (own_value w p) in
    let vp : T (positive v) = positive_of_value v (num w) (den w) val np in
    let vz : T (le v z) = round_mono binary64 (num w) (den w) a c (den_pos w) C h in
    let zp : T (positive z) = between v z hi vp q vz l in
    let wv : T (le w v) = le_of_values w v (num w) (den w) (num w) (den w) (den_pos w) (den_pos w) (own_value w p) val (le_of_eq refl) in
    (zp, le_trans_positive w v z p vp zp wv vz)

-- ---- sums

-- a sum whose first part is no -0: the exact sum, rounded
pub add_is : (x y : Float) → Plain x → Signed y → add binary64 x y ≡ round binary64 false (num x * den y + num y * den x) (den x * den y)
unfolding add sum
add_is nan y p q = absurd p
add_is (inf s) y p q = absurd p
add_is (fin true m e) y p q = absurd p
add_is (fin false m e) nan p q = absurd q
add_is (fin false m e) (inf t) p q = absurd q
add_is (fin false m e) (fin false n d) p q = refl
add_is (fin false m e) (fin true n d) p q =
    let z : n * up d * down e ≡ 0 = ap (λ (k : ℕ). k * up d * down e) (q refl) ∙ ap (λ (k : ℕ). k * down e) (zero-mul (up d)) ∙ zero-mul (down e) in
    rw (z, le-ltb (m * up e * down d) 0 (omega arith)) (ap (λ (k : ℕ). round binary64 false k (down e * down d)) (let r : m * up e * down d - 0 ≡ m * up e * down d + 0 = omega arith in r))

sum_under : (p q u v B C : ℕ) → p ≤ B * u → q ≤ C * v → (p * v + q * u) * 1 ≤ (B + C) * (u * v)
sum_under p q u v B C h k = omega (arith, mul-le-mul_right v h, mul-le-mul_right u k)

-- 2 ^ c is lost beside 2 ^ b: a sum keeps the bound 2 ^ b
pub add_under : (b c : ℕ) → round binary64 false (2 ^ b + 2 ^ c) 1 ≡ power b → (x y : Float) → Plain x → Signed y → T (le x (power b)) → T (le y (power c)) → T (le (add binary64 x y) (power b))
add_under b c e x y p q h k =
    subst⁻¹ (λ (z : Float). T (le z (power b))) (add_is x y p q)
    (subst (λ (z : Float). T (le (round binary64 false (num x * den y + num y * den x) (den x * den y)) z)) e
    (round_mono binary64 (num x * den y + num y * den x) (den x * den y) (2 ^ b + 2 ^ c) 1 (mul-pos (den_pos x) (den_pos y)) (lit< tt)
    (sum_under (num x) (num y) (den x) (den y) (2 ^ b) (2 ^ c) (power_cross x b (plain_signed x p) h) (power_cross y c q k))))

part_left : (p q u v : ℕ) → p * (u * v) ≤ (p * v + q * u) * u
part_left p q u v =
    let a : p * (u * v) ≡ p * v * u = ap (λ (x : ℕ). p * x) (mul_comm u v) ∙ sym (mul_assoc p v u) in
    let b : (p * v + q * u) * u ≡ p * v * u + q * u * u = add-mul (p * v) (q * u) u in
    omega arith

part_right : (p q u v : ℕ) → q * (u * v) ≤ (p * v + q * u) * v
part_right p q u v =
    let a : q * (u * v) ≡ q * u * v = sym (mul_assoc q u v) in
    let b : (p * v + q * u) * v ≡ p * v * v + q * u * v = add-mul (p * v) (q * u) v in
    omega arith

-- a sum that has some bound is no less than each of its parts
module _ (x y hi : Float) (p : Plain x) (q : Signed y) (r : T (positive hi)) (l : T (le (add binary64 x y) hi)) where
  pub over_left : T (positive x) → T (fits binary64 x) → T (positive (add binary64 x y)) × T (le x (add binary64 x y))
  over_left a f =
      subst⁻¹ (λ (z : Float). T (positive z) × T (le x z)) (add_is x y p q)
      (grow x hi (num x * den y + num y * den x) (den x * den y) a f r (mul-pos (den_pos x) (den_pos y)) (part_left (num x) (num y) (den x) (den y))
      (subst (λ (z : Float). T (le z hi)) (add_is x y p q) l))

  pub over_right : T (positive y) → T (fits binary64 y) → T (positive (add binary64 x y)) × T (le y (add binary64 x y))
  over_right a f =
      subst⁻¹ (λ (z : Float). T (positive z) × T (le y z)) (add_is x y p q)
      (grow y hi (num x * den y + num y * den x) (den x * den y) a f r (mul-pos (den_pos x) (den_pos y)) (part_right (num x) (num y) (den x) (den y))
      (subst (λ (z : Float). T (le z hi)) (add_is x y p q) l))

-- ---- quotients

pub div_is : (x y : Float) → T (positive x) → T (positive y) → div binary64 x y ≡ round binary64 false (num x * den y) (num y * den x)
unfolding div
div_is nan y p q = absurd p
div_is (inf s) y p q = absurd p
div_is (fin true m e) y p q = absurd p
div_is (fin false m e) nan p q = absurd q
div_is (fin false m e) (inf t) p q = absurd q
div_is (fin false m e) (fin true n d) p q = absurd q
div_is (fin false m e) (fin false n d) p q =
    let z : 0 < n = ltb→lt 0 n q in
    ap (λ (b : Bool). cond b (cond (eqb m 0) nan (inf false)) (round binary64 false (m * up e * down d) (n * up d * down e))) (ne_eqb n 0 (omega arith))

num_pos : (x : Float) → T (positive x) → 0 < num x
num_pos x p = value_pos x (num x) (den x) p (den_pos x) (own_value x p)

nought_round : round binary64 false 0 1 ≡ nought
unfolding round of_bits of_fields
nought_round = refl

module _ (x y : Float) (p : T (positive x)) (q : T (positive y)) where
  pub div_not_negative : T (le nought (div binary64 x y))
  div_not_negative =
      subst⁻¹ (λ (z : Float). T (le nought z)) (div_is x y p q)
      (subst (λ (z : Float). T (le z (round binary64 false (num x * den y) (num y * den x)))) nought_round
      (round_mono binary64 0 1 (num x * den y) (num y * den x) (lit< tt) (mul-pos (num_pos y q) (den_pos x)) (omega arith)))

  -- a part by the whole: at most 2 ^ b, and so at most 1
  pub div_under : (b : ℕ) → round binary64 false (2 ^ b) 1 ≡ power b → T (le x y) → T (le (div binary64 x y) (power b))
  div_under b e h =
      subst⁻¹ (λ (z : Float). T (le z (power b))) (div_is x y p q)
      (subst (λ (z : Float). T (le (round binary64 false (num x * den y) (num y * den x)) z)) e
      (round_mono binary64 (num x * den y) (num y * den x) (2 ^ b) 1 (mul-pos (num_pos y q) (den_pos x)) (lit< tt)
      (let c : num x * den y ≤ num y * den x = le→cross x y p q h in let d = pow_pos b in enough (num x * den y) (num y * den x) (2 ^ b) c d)))
    where
      enough : (a c k : ℕ) → a ≤ c → 0 < k → a * 1 ≤ k * c
      enough a c k h g = let m = mul-le-mul_right c g in omega arith
