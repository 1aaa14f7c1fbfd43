-- Joined weights: each weight is zero or from 2^-40 to 2^40, so a sum of k of them is zero or from 2^-40 to k * 2^40 (rounding keeps both bounds, which are exact numbers), and 4,096 make 2^52.
use mathlib.Core.Path.{◌≡◌, refl, sym, subst, subst⁻¹, ap, ◌∙◌}
use mathlib.Core.Logic.{◌⊎◌, inl, inr}
use mathlib.Core.Bool.{Bool, true, false, ◌&&◌, ◌||◌, true≢false, false≢true}
use Prim.Native.Nat.{ℕ, ◌+◌, ◌-◌, ◌*◌, ◌≤◌, ◌<◌}
use mathlib.Core.List.{List, [], ◌∷◌}
use native.Mathlib.Omega.{arith}
use native.Mathlib.Nat.{mul-pos, mul-le-mul_right, mul_comm, mul_assoc, zero-mul}
use lib.Dec.{T, eqb}
use lib.IntN.{pos, negsuc}
use lib.ListN.{length}
use lib.Ieee.{Float, nan, inf, fin, binary64, of_bits, of_fields, le, eq, add, sum, round, up, down}
use lib.Ieee.Bits.{is_true}
use lib.Ieee.Fits.{down_pos, up_pos}
use lib.Ieee.Exact.{HasValue}
use lib.Ieee.Back.{round_whole}
use lib.Ieee.Order.{round_mono}
use lib.Ieee.Positive.{num, den, positive, den_pos, own_value, positive_of_value, le→cross, cross→le, values_of_le, between}
use borrow.Author.Tests.{lt-ltb, le-ltb, eqb-true}
use Rattle.numbers.proofs.Bools.{and_t, or_t, t_of}
use Rattle.numbers.proofs.Constants.{least_weight_is, greatest_weight_is, greatest_joined_is}
use Rattle.numbers.proofs.Floats.{Signed, first_zero, zero_round}
use Rattle.bisim_core.specs.Data.{Edge}
use Rattle.numbers.specs.Real.{is_zero, least_weight, greatest_weight, greatest_joined}
use Rattle.build_theory.specs.Edges.{same, taken, ended, runs, join}
use Rattle.bisim_core.specs.Model.{weighs}
use Rattle.build_theory.proofs.Ranks.{AllE}

abbrev lowest : Float
lowest = fin false 1 (negsuc 39)

abbrev highest : Float
highest = fin false 1 (pos 40)

least_round : round binary64 false 1 1099511627776 ≡ lowest
unfolding round
least_round = refl

-- zero, of either sign
abbrev pub Nil : Float → Type 0
Nil nan = ⊥
Nil (inf s) = ⊥
Nil (fin s m e) = m ≡ 0

-- from 2^-40 to k times 2^40
pub record Weighty (k : ℕ) (w : Float) : Type 0 where
  pub above : T (positive w)
  pub low : den w ≤ num w * 1099511627776
  pub high : num w ≤ k * 1099511627776 * den w

abbrev pub Fair : ℕ → Float → Type 0
Fair k w = Nil w ⊎ Weighty k w

nil_of : (w : Float) → is_zero w ≡ true → Nil w
unfolding eq of_bits of_fields
nil_of nan h = absurd (false≢true h)
nil_of (inf s) h = absurd (false≢true h)
nil_of (fin s m e) h =
    let z = eqb-true (m * up e * 1) (0 * 1 * down e) (and_t (eqb (m * up e * 1) (0 * 1 * down e)) _ h).0 in
    first_zero m (up e) (up_pos e) (let a : m * up e * 1 ≡ m * up e = omega arith in let b : 0 * 1 * down e ≡ 0 = zero-mul (down e) in sym a ∙ z ∙ b)

weighty_of : (w : Float) → le lowest w ≡ true → le w highest ≡ true → Weighty 1 w
weighty_of w h k =
    let p : T (positive w) = between lowest w highest tt tt (t_of h) (t_of k) in
    record {
      above = p;
      low = let a = le→cross lowest w tt p (t_of h) in let b : num lowest * den w ≡ den w = omega arith in omega arith;
      high = let a = le→cross w highest p tt (t_of k) in omega arith;
    }

-- a weight that passes check 5
pub fair_of : (w : Float) → weighs w ≡ true → Fair 1 w
fair_of w h = pick (or_t (is_zero w) _ h)
  where
    pick : (is_zero w ≡ true) ⊎ ((le least_weight w && le w greatest_weight) ≡ true) → Fair 1 w
    pick (inl e) = inl (nil_of w e)
    pick (inr e) =
        let (a, b) = and_t (le least_weight w) (le w greatest_weight) e in
        inr (weighty_of w (subst (λ (x : Float). le x w ≡ true) least_weight_is a) (subst (λ (x : Float). le w x ≡ true) greatest_weight_is b))

pub fair_more : (k l : ℕ) (w : Float) → k ≤ l → Fair k w → Fair l w
fair_more k l w h (inl z) = inl z
fair_more k l w h (inr y) = inr (record { above = y.above; low = y.low; high = more })
  where
    more : num w ≤ l * 1099511627776 * den w
    more = let a = mul-le-mul_right (den w) (let z : k * 1099511627776 ≤ l * 1099511627776 = omega arith in z) in let b = y.high in omega arith

-- ---- a sum of two such weights

nil_round : (s : Bool) (c : ℕ) → 0 < c → Nil (round binary64 s 0 c)
nil_round s c h = subst⁻¹ Nil (zero_round s c h) refl

sum_nil : (s t : Bool) (a b c : ℕ) → a ≡ 0 → b ≡ 0 → 0 < c → Nil (sum binary64 s a t b c)
unfolding sum
sum_nil s t a b c e f h = subst⁻¹ (λ (x : ℕ). Nil (sum binary64 s x t b c)) e (subst⁻¹ (λ (x : ℕ). Nil (sum binary64 s 0 t x c)) f (pick s t))
  where
    pick : (s t : Bool) → Nil (sum binary64 s 0 t 0 c)
    pick true true = nil_round true c h
    pick true false = nil_round false c h
    pick false true = nil_round false c h
    pick false false = nil_round false c h

sum_value : (s t : Bool) (a b c : ℕ) → (s ≡ true → a ≡ 0) → (t ≡ true → b ≡ 0) → 0 < a + b → sum binary64 s a t b c ≡ round binary64 false (a + b) c
unfolding sum
sum_value true true a b c h k l = let x = h refl in let y = k refl in absurd (omega arith)
sum_value true false a b c h k l =
    let x = h refl in
    rw (lt-ltb a b (omega arith)) (ap (λ (z : ℕ). round binary64 false z c) (let e : b - a ≡ a + b = omega arith in e))
sum_value false true a b c h k l =
    let y = k refl in
    rw (le-ltb a b (omega arith)) (ap (λ (z : ℕ). round binary64 false z c) (let e : a - b ≡ a + b = omega arith in e))
sum_value false false a b c h k l = refl

-- a fraction within bounds, rounded
rounded : (k n c : ℕ) → k ≤ 4096 → 0 < k → 0 < c → c ≤ n * 1099511627776 → n ≤ k * 1099511627776 * c → Weighty k (round binary64 false n c)
rounded k n c few some pc lo hi =
    let z = round binary64 false n c in
    let top = round binary64 false (k * 1099511627776) 1 in
    let value : HasValue top false (k * 1099511627776) 1 = round_whole binary64 false (k * 1099511627776) (omega arith) in
    let h1 : T (le lowest z) = subst (λ (x : Float). T (le x z)) least_round (round_mono binary64 1 1099511627776 n c (omega arith) pc (omega arith)) in
    let h2 : T (le z top) = round_mono binary64 n c (k * 1099511627776) 1 pc (omega arith) (omega arith) in
    let pt : T (positive top) = positive_of_value top (k * 1099511627776) 1 value (omega arith) in
    let pz : T (positive z) = between lowest z top tt pt h1 h2 in
    record {
      above = pz;
      low = let a = le→cross lowest z tt pz h1 in let b : num lowest * den z ≡ den z = omega arith in omega arith;
      high = let a = values_of_le z top (num z) (den z) (k * 1099511627776) 1 pz pt (own_value z pz) value h2 in omega arith;
    }

nil_num : (w : Float) → Nil w → num w ≡ 0
nil_num nan z = absurd z
nil_num (inf s) z = absurd z
nil_num (fin s m e) z = ap (λ (x : ℕ). x * up e) z ∙ zero-mul (up e)

fair_high : (k : ℕ) (w : Float) → Fair k w → num w ≤ k * 1099511627776 * den w
fair_high k w (inl z) = let e = nil_num w z in omega arith
fair_high k w (inr y) = y.high

fair_signed : (k : ℕ) (w : Float) → Fair k w → Signed w
fair_signed k nan (inl z) = z
fair_signed k nan (inr y) = absurd y.above
fair_signed k (inf s) (inl z) = z
fair_signed k (inf s) (inr y) = absurd y.above
fair_signed k (fin s m e) (inl z) = λ t. z
fair_signed k (fin true m e) (inr y) = λ t. absurd y.above
fair_signed k (fin false m e) (inr y) = λ t. absurd (false≢true t)

some_num : (k : ℕ) (w : Float) → Weighty k w → 0 < num w
some_num k w y = let a = y.low in let b = den_pos w in omega arith

add_value : (x y : Float) → Signed x → Signed y → 0 < num x * den y + num y * den x → add binary64 x y ≡ round binary64 false (num x * den y + num y * den x) (den x * den y)
unfolding add
add_value nan y s t h = absurd s
add_value (inf u) y s t h = absurd s
add_value (fin u m e) nan s t h = absurd t
add_value (fin u m e) (inf v) s t h = absurd t
add_value (fin u m e) (fin v n d) s t h =
    sum_value u v (m * up e * down d) (n * up d * down e) (down e * down d)
    (λ z. ap (λ (x : ℕ). x * up e * down d) (s z) ∙ ap (λ (x : ℕ). x * down d) (zero-mul (up e)) ∙ zero-mul (down d))
    (λ z. ap (λ (x : ℕ). x * up d * down e) (t z) ∙ ap (λ (x : ℕ). x * down e) (zero-mul (up d)) ∙ zero-mul (down e)) h

add_nil : (x y : Float) → Nil x → Nil y → Nil (add binary64 x y)
unfolding add
add_nil nan y s t = s
add_nil (inf u) y s t = absurd s
add_nil (fin u m e) nan s t = t
add_nil (fin u m e) (inf v) s t = absurd t
add_nil (fin u m e) (fin v n d) s t =
    sum_nil u v (m * up e * down d) (n * up d * down e) (down e * down d)
    (ap (λ (x : ℕ). x * up e * down d) s ∙ ap (λ (x : ℕ). x * down d) (zero-mul (up e)) ∙ zero-mul (down d))
    (ap (λ (x : ℕ). x * up d * down e) t ∙ ap (λ (x : ℕ). x * down e) (zero-mul (up d)) ∙ zero-mul (down e)) (mul-pos (down_pos e) (down_pos d))

-- bounds of a sum, on the fractions
sum_low : (n d m e : ℕ) → d ≤ n * 1099511627776 → d * e ≤ (n * e + m * d) * 1099511627776
sum_low n d m e h = let a = mul-le-mul_right e h in let b : n * 1099511627776 * e ≡ n * e * 1099511627776 = product n e in omega arith
  where
    product : (n e : ℕ) → n * 1099511627776 * e ≡ n * e * 1099511627776
    product n e = mul_assoc n 1099511627776 e ∙ ap (λ (x : ℕ). n * x) (mul_comm 1099511627776 e) ∙ sym (mul_assoc n e 1099511627776)

sum_high : (k n d m e : ℕ) → n ≤ k * 1099511627776 * d → m ≤ 1 * 1099511627776 * e → n * e + m * d ≤ (k + 1) * 1099511627776 * (d * e)
sum_high k n d m e h g =
    let a : n * e ≤ k * 1099511627776 * (d * e) = subst (λ (x : ℕ). n * e ≤ x) (mul_assoc (k * 1099511627776) d e) (mul-le-mul_right e h) in
    let b : m * d ≤ 1 * 1099511627776 * (d * e) = subst (λ (x : ℕ). m * d ≤ x) (mul_assoc (1 * 1099511627776) e d ∙ ap (λ (x : ℕ). 1 * 1099511627776 * x) (mul_comm e d)) (mul-le-mul_right d g) in
    added (k * 1099511627776) (d * e) (n * e) (m * d) k refl a b
  where
    spread : (p q r : ℕ) → (p + q) * r ≡ p * r + q * r
    spread p q r = native.Mathlib.Nat.add-mul p q r

    added : (p r x y k : ℕ) → p ≡ k * 1099511627776 → x ≤ p * r → y ≤ 1 * 1099511627776 * r → x + y ≤ (k + 1) * 1099511627776 * r
    added p r x y k e h g =
        let z : (k + 1) * 1099511627776 ≡ p + 1 * 1099511627776 = omega arith in
        let w = ap (λ (q : ℕ). q * r) z ∙ spread p (1 * 1099511627776) r in
        omega arith

pub add_fair : (k : ℕ) (x y : Float) → k + 1 ≤ 4096 → Fair k x → Fair 1 y → Fair (k + 1) (add binary64 x y)
add_fair k x y few f g = pick f g
  where
    made : den x * den y ≤ (num x * den y + num y * den x) * 1099511627776 → Weighty (k + 1) (add binary64 x y)
    made h = subst⁻¹ (Weighty (k + 1)) (add_value x y (fair_signed k x f) (fair_signed 1 y g) (let a = den_pos x in let b = den_pos y in let p = mul-pos a b in omega arith))
        (rounded (k + 1) (num x * den y + num y * den x) (den x * den y) few (omega arith) (mul-pos (den_pos x) (den_pos y)) h
        (sum_high k (num x) (den x) (num y) (den y) (fair_high k x f) (fair_high 1 y g)))

    pick : Fair k x → Fair 1 y → Fair (k + 1) (add binary64 x y)
    pick (inl a) (inl b) = inl (add_nil x y a b)
    pick (inr a) b = inr (made (sum_low (num x) (den x) (num y) (den y) a.low))
    pick (inl a) (inr b) = inr (made (let l = sum_low (num y) (den y) (num x) (den x) b.low in let m = mul_comm (den x) (den y) in omega arith))

-- ---- over a run

pub all_weights : (a : Edge) (xs : List Edge) (k : ℕ) → 1 ≤ k → k + length xs ≤ 4096 → Fair k a.weight → AllE (λ x. Fair 1 x.weight) xs → AllE (λ x. Fair 4096 x.weight) (runs a xs)
unfolding runs
all_weights a [] k o h f g = (fair_more k 4096 a.weight (omega arith) f, tt)
all_weights a (x ∷ xs) k o h f g =
    pick (same a x) (all_weights (taken true a x) xs (k + 1) (omega arith) (omega arith) (add_fair k a.weight x.weight (omega arith) f g.0) g.1)
    (all_weights x xs 1 (omega arith) (omega arith) g.0 g.1)
  where
    pick : (b : Bool) → AllE (λ y. Fair 4096 y.weight) (runs (taken true a x) xs) → AllE (λ y. Fair 4096 y.weight) (runs x xs) → AllE (λ y. Fair 4096 y.weight) (ended b a (runs (taken b a x) xs))
    pick true p q = p
    pick false p q = (fair_more k 4096 a.weight (omega arith) f, q)

pub all_joined : (xs : List Edge) → length xs ≤ 4096 → AllE (λ x. Fair 1 x.weight) xs → AllE (λ x. Fair 4096 x.weight) (join xs)
unfolding join
all_joined [] h g = tt
all_joined (x ∷ xs) h g = all_weights x xs 1 (omega arith) (omega arith) g.0 g.1

zero_of : (w : Float) → Nil w → is_zero w ≡ true
unfolding eq of_bits of_fields
zero_of nan z = absurd z
zero_of (inf s) z = absurd z
zero_of (fin s m e) z =
    let a : m * up e * 1 ≡ 0 = ap (λ (x : ℕ). x * up e * 1) z ∙ ap (λ (x : ℕ). x * 1) (zero-mul (up e)) in
    let b : 0 * 1 * down e ≡ 0 = zero-mul (down e) in
    rw (a, b) (pick s)
  where
    pick : (s : Bool) → (eqb 0 0 && (mathlib.Core.Bool.beq s false || eqb 0 0)) ≡ true
    pick true = refl
    pick false = refl

-- two zeros make a zero
pub zero_sum : (x y : Float) → is_zero x ≡ true → is_zero y ≡ true → is_zero (add binary64 x y) ≡ true
zero_sum x y h k = zero_of (add binary64 x y) (add_nil x y (nil_of x h) (nil_of y k))

-- what is kept passes the check of a joined weight
pub joined_weighs_lem : (w : Float) → Fair 4096 w → is_zero w ≡ false → (le least_weight w && le w greatest_joined) ≡ true
joined_weighs_lem w (inl z) h = absurd (true≢false (sym (zero_of w z) ∙ h))
joined_weighs_lem w (inr y) h =
    let a = y.low in
    let b = y.high in
    let p : le lowest w ≡ true = is_true _ (cross→le lowest w tt y.above (let c : num lowest * den w ≡ den w = omega arith in omega arith)) in
    let q : le w (fin false 1 (pos 52)) ≡ true = is_true _ (cross→le w (fin false 1 (pos 52)) y.above tt (omega arith)) in
    rw (least_weight_is, greatest_joined_is, p) q
