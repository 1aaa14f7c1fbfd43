-- The numbers of a card as binary64: a weight passes check 5, and check 9 is that ρ is below 1,024.
use mathlib.Core.Path.{◌≡◌, refl, sym, subst, ap, ◌∙◌}
use mathlib.Core.Logic.{◌⊎◌, inl, inr}
use mathlib.Core.Bool.{Bool, true, false, ◌&&◌, ◌||◌}
use Prim.Native.Nat.{ℕ, zero, suc, ◌+◌, ◌*◌, ◌^◌, ◌≤◌, ◌<◌}
use native.Mathlib.Omega.{arith}
use native.Mathlib.Nat.{mul_assoc, mul_comm, mul-pos, lt_of_lt_of_le}
use lib.Dec.{T, ltb, lit<, lit≤}
use lib.IntN.{pos}
use lib.Pow.{pow_mono, shl_lt}
use lib.Ieee.{Float, nan, inf, fin, binary64, of_bits, of_fields, of_int, round, div, le, lt, eq}
use lib.Ieee.Bits.{is_true}
use lib.Ieee.Exact.{HasValue, round_exact}
use lib.Ieee.Back.{round_whole}
use lib.Ieee.Order.{le_of_values}
use lib.Ieee.Positive.{num, den, den_pos, value→cross, positive, positive_of_value, values_of_le, above, above_of_le}
use lib.Ieee.Scale.{round_same}
use borrow.Author.Tests.{lt-ltb, le-ltb}
use Rattle.numbers.specs.Real.{nought, is_zero, is_valid, one, least_weight, greatest_weight, greatest_factor}
use Rattle.numbers.proofs.Bools.{lt_or_ge, t_of}
use Rattle.numbers.proofs.Floats.{zero_round, div_is}
use Rattle.bisim_core.specs.Model.{weighs}
use Rattle.epsdelta_theory.specs.Refusal.{factor_outside, tolerances_outside}
use Rattle.card_relation.specs.Relating.{parts}

-- ---- a weight

whole_value : (n : ℕ) → n < 1000000 → HasValue (of_int binary64 (pos n)) false n 1
unfolding of_int
whole_value n h = round_whole binary64 false n (let l : 1000000 ≤ 2 ^ 53 = lit≤ tt in omega arith)

least_value : HasValue least_weight false 1 (2 ^ 40)
unfolding of_bits of_fields
least_value = (refl, refl)

greatest_value : HasValue greatest_weight false (2 ^ 40) 1
unfolding of_bits of_fields
greatest_value = (refl, refl)

zero_is : of_int binary64 (pos 0) ≡ fin false 0 (pos 0)
unfolding of_int
zero_is = zero_round false 1 (lit< tt)

zero_weighs : weighs (of_int binary64 (pos 0)) ≡ true
unfolding eq of_bits of_fields
zero_weighs = ap weighs zero_is

pub whole_weighs : (n : ℕ) → n < 1000000 → weighs (of_int binary64 (pos n)) ≡ true
whole_weighs zero h = zero_weighs
whole_weighs (suc n) h =
    let v = whole_value (suc n) h in
    let x = of_int binary64 (pos (suc n)) in
    let a : le least_weight x ≡ true = is_true _ (le_of_values least_weight x 1 (2 ^ 40) (suc n) 1 (lit< tt) (lit< tt) least_value v (omega arith)) in
    let b : le x greatest_weight ≡ true = is_true _ (le_of_values x greatest_weight (suc n) 1 (2 ^ 40) 1 (lit< tt) (lit< tt) v greatest_value (omega arith)) in
    any (is_zero x) (le least_weight x) (le x greatest_weight) a b
  where
    any : (p q r : Bool) → q ≡ true → r ≡ true → (p || (q && r)) ≡ true
    any true q r e f = refl
    any false q r e f = rw (e, f)

-- ---- so many 1,024ths

scale_is : of_bits binary64 0x4090000000000000 ≡ fin false 1 (pos 10)
unfolding of_bits of_fields
scale_is = refl

no_parts : parts 0 ≡ fin false 0 (pos 0)
unfolding div
no_parts = ap (λ (y : Float). div binary64 (of_int binary64 (pos 0)) y) scale_is ∙ ap (λ (x : Float). div binary64 x (fin false 1 (pos 10))) zero_is ∙ zero_round false 1024 (lit< tt)

exact : (n : ℕ) → n < 1000000 → HasValue (round binary64 false n 1024) false n 1024
exact n h =
    let l : 1000000 ≤ 2 ^ 53 = lit≤ tt in
    let s : n < 2 ^ 53 = omega arith in
    round_exact binary64 false n 1024 n 1064 (lit< tt) s (lt_of_lt_of_le (shl_lt 53 1064 s) (pow_mono {i = 53 + 1064} {j = 1074 + 1024} (lit≤ tt))) (sym (mul_assoc n (2 ^ 1064) 1024))

pub parts_value : (n : ℕ) → n < 1000000 → HasValue (parts n) false n 1024
parts_value zero h = subst (λ (x : Float). HasValue x false 0 1024) (sym no_parts) (refl, refl)
parts_value (suc k) h =
    let n = suc k in
    let x = of_int binary64 (pos n) in
    let y : Float = fin false 1 (pos 10) in
    let v = whole_value n h in
    let p = positive_of_value x n 1 v (omega arith) in
    let c : num x * 1 ≡ n * den x = value→cross x n 1 v in
    let d : num x * 1 * 1024 ≡ n * (1024 * den x) = ap (λ (z : ℕ). z * 1024) c ∙ mul_assoc n (den x) 1024 ∙ ap (λ (z : ℕ). n * z) (mul_comm (den x) 1024) in
    let e : parts n ≡ round binary64 false n 1024 = ap (div binary64 x) scale_is ∙ div_is x y p tt ∙ round_same binary64 false (num x * 1) (1024 * den x) n 1024 (mul-pos (lit< tt) (den_pos x)) (lit< tt) d in
    subst (λ (z : Float). HasValue z false n 1024) (sym e) (exact n h)

module _ (x : Float) (n : ℕ) (v : HasValue x false n 1024) where
  nought_value : HasValue nought false 0 1
  unfolding of_bits of_fields
  nought_value = (refl, refl)

  one_value : HasValue one false 1 1
  unfolding of_bits of_fields
  one_value = (refl, refl)

  one_positive : T (positive one)
  unfolding of_bits of_fields
  one_positive = tt

  factor_value : HasValue greatest_factor false (2 ^ 20) 1
  unfolding of_bits of_fields
  factor_value = (refl, refl)

  finite : lt x (inf false) ≡ true
  unfolding lt
  finite = by x v
    where
      by : (z : Float) → HasValue z false n 1024 → lt z (inf false) ≡ true
      by nan w = absurd w
      by (inf s) w = absurd w
      by (fin s m e) w = refl

  valid : is_valid x ≡ true
  valid =
      let a : le nought x ≡ true = is_true _ (le_of_values nought x 0 1 n 1024 (lit< tt) (lit< tt) nought_value v (omega arith)) in
      rw (a, finite)

  above_positive : T (above x) → T (positive x)
  above_positive t = by x v t
    where
      by : (z : Float) → HasValue z false n 1024 → T (above z) → T (positive z)
      by nan w t = t
      by (inf s) w t = absurd w
      by (fin true m e) w t = t
      by (fin false m e) w t = t

  under : n < 1024 → le one x ≡ false
  under h = pick (le one x) refl
    where
      pick : (b : Bool) → le one x ≡ b → b ≡ false
      pick false e = refl
      pick true e =
          let t : T (le one x) = t_of e in
          let l : 1 * 1024 ≤ n * 1 = values_of_le one x 1 1 n 1024 one_positive (above_positive (above_of_le one x one_positive t)) one_value v t in
          absurd (omega arith)

  factor_outside_lem : n < 1000000 → factor_outside x ≡ ltb n 1024
  factor_outside_lem h = pick (lt_or_ge n 1024)
    where
      pick : (n < 1024) ⊎ (1024 ≤ n) → factor_outside x ≡ ltb n 1024
      pick (inl l) = rw (under l, lt-ltb n 1024 l)
      pick (inr l) =
          let a : le one x ≡ true = is_true _ (le_of_values one x 1 1 n 1024 (lit< tt) (lit< tt) one_value v (omega arith)) in
          let b : le x greatest_factor ≡ true = is_true _ (le_of_values x greatest_factor n 1024 (2 ^ 20) 1 (lit< tt) (lit< tt) v factor_value (omega arith)) in
          rw (a, b, le-ltb n 1024 l)

-- check 9 on a card
pub tolerances_below : (ε ρ : ℕ) → ε < 1000000 → ρ < 1000000 → tolerances_outside (parts ε) (parts ρ) ≡ ltb ρ 1024
tolerances_below ε ρ h k = rw (valid (parts ε) ε (parts_value ε h)) (factor_outside_lem (parts ρ) ρ (parts_value ρ k) k)
