-- A run at a valid ε is not refused where `min_epsilon` is not, and what it leaves in the bytes is zero, as it was.
use mathlib.Core.Path.{◌≡◌, sym, ap, ◌∙◌}
use Prim.Native.Nat.{ℕ}
use mathlib.Core.Bool.{Bool, true, false, cond, true≢false}
use mathlib.Core.List.{List}
use lib.ListN.{length, replicate, length-replicate}
use lib.Ieee.{Float}
use Rattle.std.specs.Prelude.{Result, Ok, Err}
use Rattle.std.specs.Result.{is_ok}
use Rattle.numbers.specs.Real.{nought, is_valid}
use Rattle.bisim_core.specs.Data.{columns_of}
use Rattle.epsdelta.specs.declared.asked.Sides.{Sides}
use Rattle.min_epsilon.specs.Outcome.{refusal_at, refusal}
use Rattle.epsdelta_theory.specs.MinEpsilon.{halving}
use Rattle.epsdelta_theory.proofs.MinEpsilon.{below_one, refused_alike}

-- what is answered where nothing is refused
abbrev value_or : {A : Type 0} → A → Result A ℕ → A
value_or y (Ok x) = x
value_or y (Err n) = y

pub value_is : {A : Type 0} {x y : A} → ◌≡◌ {A = Result A ℕ} (Ok x) (Ok y) → x ≡ y
value_is {x = x} e = ap (value_or x) e

-- and nothing is
pub not_refused : {A : Type 0} {n : ℕ} {y : A} → ◌≡◌ {A = Result A ℕ} (Err n) (Ok y) → ⊥
not_refused e = true≢false (sym (ap is_ok e))

-- bytes that a run made zero are as many
pub zero_length : (out store : List ℕ) → out ≡ replicate (length store) 0 → length out ≡ length store
zero_length out store z = ap length z ∙ length-replicate (length store) 0

pub zero_again : (last out store : List ℕ) → out ≡ replicate (length store) 0 → last ≡ replicate (length out) 0 → last ≡ replicate (length store) 0
zero_again last out store z y = y ∙ ap (λ (n : ℕ). replicate n 0) (zero_length out store z)

pub zero_still : (out store : List ℕ) → out ≡ replicate (length store) 0 → out ≡ replicate (length out) 0
zero_still out store z = z ∙ ap (λ (n : ℕ). replicate n 0) (sym (zero_length out store z))

module _ (B : Sides) (ρ : Float) where
  -- what comes after a run is not refused
  pub unrefused : (out store : List ℕ) → refusal B ρ (length store) ≡ 0 → out ≡ replicate (length store) 0 → refusal B ρ (length out) ≡ 0
  unrefused out store z l = ap (refusal B ρ) (zero_length out store l) ∙ z

  -- a run on as many bytes
  pub allowed : (ε : Float) (out store : List ℕ) → refusal B ρ (length store) ≡ 0 → length out ≡ length store → is_valid ε ≡ true → refusal_at B ε ρ (length out) ≡ 0
  allowed ε out store z l v =
      refused_alike B.left.model.shape (columns_of B.left.model) B.right.model.shape (columns_of B.right.model) B.left.classes.now B.right.classes.now ε ρ (length out) v ∙ ap (refusal B ρ) l ∙ z

-- by the run at ε = 0
pub below_one_nought : (holds : Float → Bool) (r : Bool) → r ≡ holds nought → r ≡ true → nought ≡ below_one holds
below_one_nought holds r e t = ap (λ (b : Bool). cond b nought (halving holds).hi) (sym t ∙ e)

pub below_one_between : (holds : Float → Bool) (r : Bool) (x : Float) → r ≡ holds nought → r ≡ false → x ≡ (halving holds).hi → x ≡ below_one holds
below_one_between holds r x e t f = f ∙ ap (λ (b : Bool). cond b nought (halving holds).hi) (sym t ∙ e)
