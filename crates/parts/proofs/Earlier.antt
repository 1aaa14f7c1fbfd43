-- Of two refusals the earlier: the cases of the code, and checks in a row of which each is made of two.
use mathlib.Core.Path.{◌≡◌, refl, ap, ◌∙◌}
use mathlib.Core.Logic.{◌⊎◌, inl, inr, ◌≢◌}
use mathlib.Core.Bool.{Bool, true, false, ◌||◌}
use Prim.Native.Nat.{ℕ, zero, suc, ◌<◌, ◌≤◌}
use native.Mathlib.Omega.{arith}
use Rattle.numbers.specs.Refuse.{check}
use Rattle.parts.specs.Earlier.{earlier}

-- ---- the cases

pub of_right : (a b : ℕ) → a ≡ 0 → b ≡ earlier a b
of_right zero b e = refl
of_right (suc a) b e = absurd (omega arith)

pub of_left : (a b : ℕ) → b ≡ 0 → a ≡ earlier a b
of_left zero zero e = refl
of_left zero (suc b) e = absurd (omega arith)
of_left (suc a) zero e = refl
of_left (suc a) (suc b) e = absurd (omega arith)

pub lower : (a b : ℕ) → a ≢ 0 → a < b → a ≡ earlier a b
lower zero b n h = absurd (n refl)
lower (suc a) zero n h = absurd (omega arith)
lower (suc a) (suc b) n h = omega arith

pub higher : (a b : ℕ) → b ≢ 0 → b ≤ a → b ≡ earlier a b
higher a zero n h = absurd (n refl)
higher zero (suc b) n h = absurd (omega arith)
higher (suc a) (suc b) n h = omega arith

pub neither : (a b : ℕ) → earlier a b ≡ 0 → (a ≡ 0) × (b ≡ 0)
neither zero b e = (refl, e)
neither (suc a) zero e = absurd (omega arith)
neither (suc a) (suc b) e = absurd (omega arith)

-- ---- checks in a row

-- no refusal, or a later one than k
abbrev Later : ℕ → ℕ → Type 0
Later k x = (x ≡ 0) ⊎ (k < x)

check_later : (j k : ℕ) (a : Bool) (x : ℕ) → j < k → Later k x → Later j (check k a x)
check_later j k true x h l = inr h
check_later j k false x h (inl e) = inl e
check_later j k false x h (inr l) = inr (omega arith)

-- k and a later one
before_left : (k x : ℕ) → Later (suc k) x → earlier (suc k) x ≡ suc k
before_left k zero l = refl
before_left k (suc x) (inl e) = absurd (omega arith)
before_left k (suc x) (inr h) = omega arith

before_right : (k x : ℕ) → Later (suc k) x → earlier x (suc k) ≡ suc k
before_right k zero l = refl
before_right k (suc x) (inl e) = absurd (omega arith)
before_right k (suc x) (inr h) = omega arith

both_check : (k : ℕ) (a b : Bool) (x y : ℕ) → Later (suc k) x → Later (suc k) y → earlier (check (suc k) a x) (check (suc k) b y) ≡ check (suc k) (a || b) (earlier x y)
both_check k true true x y l m = omega arith
both_check k true false x y l m = before_left k y m
both_check k false true x y l m = before_right k x l
both_check k false false x y l m = refl

-- four checks of each, and the four of both; their numbers are one more than those given
module _ (p q r s : ℕ) (hp : p < q) (hq : q < r) (hr : r < s) where
  abbrev pub four : Bool → Bool → Bool → Bool → ℕ
  four a b c d = check (suc p) a (check (suc q) b (check (suc r) c (check (suc s) d 0)))

  pub both_four : (a b c d a' b' c' d' : Bool) → earlier (four a b c d) (four a' b' c' d') ≡ four (a || a') (b || b') (c || c') (d || d')
  both_four a b c d a' b' c' d' =
      let fourth : (x : Bool) → Later (suc r) (check (suc s) x 0) = λ x. check_later (suc r) (suc s) x 0 (omega arith) (inl refl) in
      let third : (x y : Bool) → Later (suc q) (check (suc r) x (check (suc s) y 0)) = λ x y. check_later (suc q) (suc r) x (check (suc s) y 0) (omega arith) (fourth y) in
      let second : (x y z : Bool) → Later (suc p) (check (suc q) x (check (suc r) y (check (suc s) z 0))) = λ x y z. check_later (suc p) (suc q) x (check (suc r) y (check (suc s) z 0)) (omega arith) (third y z) in
      both_check p a a' (check (suc q) b (check (suc r) c (check (suc s) d 0))) (check (suc q) b' (check (suc r) c' (check (suc s) d' 0))) (second b c d) (second b' c' d')
      ∙ ap (check (suc p) (a || a')) (both_check q b b' (check (suc r) c (check (suc s) d 0)) (check (suc r) c' (check (suc s) d' 0)) (third c d) (third c' d')
      ∙ ap (check (suc q) (b || b')) (both_check r c c' (check (suc s) d 0) (check (suc s) d' 0) (fourth d) (fourth d')
      ∙ ap (check (suc r) (c || c')) (both_check s d d' 0 0 (inl refl) (inl refl))))
