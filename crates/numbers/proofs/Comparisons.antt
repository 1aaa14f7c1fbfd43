-- Numbers that are not negative, an infinity included, stand in a line: what `lt` and `le` say of two and of three of them.
use mathlib.Core.Path.{◌≡◌, refl, sym, ◌∙◌}
use mathlib.Core.Logic.{◌≢◌, ◌⊎◌, inl, inr}
use mathlib.Core.Bool.{Bool, true, false, false≢true, true≢false}
use Prim.Native.Nat.{ℕ, ◌≤◌, ◌<◌, ◌*◌}
use native.Mathlib.Omega.{arith}
use native.Mathlib.Nat.{mul-le-mul_right, mul-lt-mul_of_pos_right, lt_of_mul-lt-mul_right}
use borrow.Author.Tests.{ltb-true, ltb-false, lt-ltb, le-ltb, ne_eqb}
use lib.Dec.{T}
use lib.IntN.{ℤ}
use lib.Ieee.{Float, nan, inf, fin, of_bits, of_fields, lt, le, eq, up, down}
use lib.Ieee.Fits.{down_pos}
use lib.Ieee.Positive.{above}
use Rattle.numbers.specs.Real.{nought, eps}
use Rattle.numbers.proofs.Refuses.{none}
use Rattle.numbers.proofs.Floats.{Plain}

-- not negative and not NaN; -0 left out
abbrev pub Above : Float → Type 0
Above nan = ⊥
Above (inf true) = ⊥
Above (inf false) = Unit {0}
Above (fin true m e) = ⊥
Above (fin false m e) = Unit {0}

pub above_t : (x : Float) → T (above x) → Above x
above_t nan t = t
above_t (inf true) t = t
above_t (inf false) t = tt
above_t (fin true m e) t = t
above_t (fin false m e) t = tt

pub above_cases : (x : Float) → Above x → Plain x ⊎ (x ≡ inf false)
above_cases nan p = absurd p
above_cases (inf true) p = absurd p
above_cases (inf false) p = inr refl
above_cases (fin true m e) p = absurd p
above_cases (fin false m e) p = inl tt

pub fin_inf : (s : Bool) (m : ℕ) (e : ℤ) → fin s m e ≢ inf false
fin_inf s m e p = let z : ◌≡◌ {A = ℕ} 0 1 = cc in omega arith

-- what is above one of them is one
pub lt_above : (x y : Float) → Above x → lt x y ≡ true → Above y
unfolding lt
lt_above nan y p h = absurd p
lt_above (inf true) y p h = absurd p
lt_above (fin true m e) y p h = absurd p
lt_above (inf false) nan p h = absurd (false≢true h)
lt_above (inf false) (inf t) p h = absurd (false≢true h)
lt_above (inf false) (fin t n d) p h = absurd (false≢true h)
lt_above (fin false m e) nan p h = absurd (false≢true h)
lt_above (fin false m e) (inf true) p h = absurd (false≢true h)
lt_above (fin false m e) (inf false) p h = tt
lt_above (fin false m e) (fin true n d) p h = absurd (false≢true h)
lt_above (fin false m e) (fin false n d) p h = tt

pub lt_asym : (x y : Float) → Above x → Above y → lt x y ≡ true → lt y x ≡ false
unfolding lt
lt_asym nan y p q h = absurd p
lt_asym (inf true) y p q h = absurd p
lt_asym (fin true m e) y p q h = absurd p
lt_asym (inf false) nan p q h = absurd q
lt_asym (inf false) (inf true) p q h = absurd q
lt_asym (inf false) (inf false) p q h = refl
lt_asym (inf false) (fin t n d) p q h = absurd (false≢true h)
lt_asym (fin false m e) nan p q h = absurd q
lt_asym (fin false m e) (inf true) p q h = absurd q
lt_asym (fin false m e) (inf false) p q h = refl
lt_asym (fin false m e) (fin true n d) p q h = absurd q
lt_asym (fin false m e) (fin false n d) p q h =
    le-ltb (n * up d * down e) (m * up e * down d) (let l : m * up e * down d < n * up d * down e = ltb-true _ _ h in omega arith)

lt_not_eq : (x y : Float) → Above x → Above y → lt x y ≡ true → eq y x ≡ false
unfolding lt eq
lt_not_eq nan y p q h = absurd p
lt_not_eq (inf true) y p q h = absurd p
lt_not_eq (fin true m e) y p q h = absurd p
lt_not_eq (inf false) nan p q h = absurd q
lt_not_eq (inf false) (inf t) p q h = absurd (false≢true h)
lt_not_eq (inf false) (fin t n d) p q h = absurd (false≢true h)
lt_not_eq (fin false m e) nan p q h = absurd q
lt_not_eq (fin false m e) (inf t) p q h = refl
lt_not_eq (fin false m e) (fin true n d) p q h = absurd q
lt_not_eq (fin false m e) (fin false n d) p q h =
    let l : m * up e * down d < n * up d * down e = ltb-true _ _ h in
    rw (ne_eqb (n * up d * down e) (m * up e * down d) (λ r. omega arith))

pub lt_not_le : (x y : Float) → Above x → lt x y ≡ true → le y x ≡ false
unfolding le
lt_not_le x y p h = let q = lt_above x y p h in none (lt y x) (eq y x) (lt_asym x y p q h) (lt_not_eq x y p q h)

pub le_not_lt : (x y : Float) → Above x → Above y → le x y ≡ true → lt y x ≡ false
le_not_lt x y p q h = pick (lt y x) refl
  where
    pick : (b : Bool) → lt y x ≡ b → b ≡ false
    pick false e = refl
    pick true e = absurd (true≢false (sym h ∙ lt_not_le y x q e))

cross : (a c x da dc dx : ℕ) → 0 < dx → a * dc < c * da → c * dx ≤ x * dc → a * dx < x * da
cross a c x da dc dx p h k = lt_of_mul-lt-mul_right dc (omega (arith, mul-lt-mul_of_pos_right h p, mul-le-mul_right da k))

-- below y, which is not above z: below z
pub lt_over : (x y z : Float) → Above x → Above y → Above z → lt x y ≡ true → lt z y ≡ false → lt x z ≡ true
unfolding lt
lt_over nan y z p q r h k = absurd p
lt_over (inf true) y z p q r h k = absurd p
lt_over (fin true m e) y z p q r h k = absurd p
lt_over (inf false) nan z p q r h k = absurd q
lt_over (inf false) (inf s) z p q r h k = absurd (false≢true h)
lt_over (inf false) (fin s n d) z p q r h k = absurd (false≢true h)
lt_over (fin false m e) nan z p q r h k = absurd q
lt_over (fin false m e) (inf true) z p q r h k = absurd q
lt_over (fin false m e) (fin true n d) z p q r h k = absurd q
lt_over (fin false m e) (inf false) nan p q r h k = absurd r
lt_over (fin false m e) (inf false) (inf true) p q r h k = absurd r
lt_over (fin false m e) (inf false) (inf false) p q r h k = refl
lt_over (fin false m e) (inf false) (fin s o f) p q r h k = absurd (true≢false k)
lt_over (fin false m e) (fin false n d) nan p q r h k = absurd r
lt_over (fin false m e) (fin false n d) (inf true) p q r h k = absurd r
lt_over (fin false m e) (fin false n d) (inf false) p q r h k = refl
lt_over (fin false m e) (fin false n d) (fin true o f) p q r h k = absurd r
lt_over (fin false m e) (fin false n d) (fin false o f) p q r h k =
    lt-ltb _ _ (cross (m * up e) (n * up d) (o * up f) (down e) (down d) (down f) (down_pos f) (ltb-true _ _ h) (ltb-false _ _ k))

-- ---- above 0, and above 1e-12

pub above_nought : (x : Float) → lt nought x ≡ true → Above x
unfolding of_bits of_fields
above_nought x h = lt_above nought x tt h

pub above_eps : (x : Float) → lt eps x ≡ true → Above x
unfolding of_bits of_fields
above_eps x h = lt_above eps x tt h

-- the test that ends a phase fails for what is above eps
pub not_small : (x : Float) → lt eps x ≡ true → le x eps ≡ false
unfolding of_bits of_fields
not_small x h = lt_not_le eps x tt h

-- and passes for 0
pub nought_small : le nought eps ≡ true
unfolding le lt eq of_bits of_fields
nought_small = refl
