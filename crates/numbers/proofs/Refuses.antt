-- Laws of checks in a row, and of tests in a row.
use mathlib.Core.Path.{◌≡◌, refl, sym, ap, ◌∙◌}
use mathlib.Core.Bool.{Bool, true, false, ◌||◌, true≢false, false≢true}
use mathlib.Core.Logic.{◌≢◌}
use Prim.Native.Nat.{ℕ, zero, suc}
use native.Mathlib.Omega.{arith}
use Rattle.std.specs.Prelude.{Result, Ok, Err}
use Rattle.std.specs.Result.{IsErrAnd}
use Rattle.numbers.specs.declared.refusal.Refusal.{Refusal}
use Rattle.numbers.specs.declared.refusal.Refusal.TheVariants as refusal
use Rattle.numbers.specs.Refuse.{check, number, numbered, code, answered}

-- no refusal has the number 0
pub number_positive : (r : Refusal) → number r ≢ 0
number_positive refusal.CardLayout e = absurd (omega arith)
number_positive refusal.CardSize e = absurd (omega arith)
number_positive refusal.ModelSize e = absurd (omega arith)
number_positive refusal.OutOfRange e = absurd (omega arith)
number_positive refusal.Weight e = absurd (omega arith)
number_positive refusal.Targets e = absurd (omega arith)
number_positive refusal.Store e = absurd (omega arith)
number_positive refusal.NoInitialState e = absurd (omega arith)
number_positive refusal.Tolerance e = absurd (omega arith)
number_positive refusal.StatesTogether e = absurd (omega arith)
number_positive refusal.DiscountOrRate e = absurd (omega arith)
number_positive refusal.Observation e = absurd (omega arith)
number_positive refusal.Chain e = absurd (omega arith)
number_positive refusal.TopOrRounds e = absurd (omega arith)
number_positive refusal.NetworkOrMasses e = absurd (omega arith)
number_positive refusal.Totals e = absurd (omega arith)
number_positive refusal.Pairs e = absurd (omega arith)
number_positive refusal.CouplingStore e = absurd (omega arith)
number_positive refusal.Occupancy e = absurd (omega arith)

-- a call that passes, and one that is turned back
pub answered_ok : {A : Type 0} (n : ℕ) (x : A) → 0 ≡ n → Ok x ≡ answered n x
answered_ok zero x e = refl
answered_ok (suc n) x e = absurd (omega arith)

pub answered_err : {A : Type 0} (r : Refusal) (n : ℕ) (x : A) → number r ≡ n → numbered (Err r) ≡ answered n x
answered_err r zero x e = absurd (number_positive r e)
answered_err r (suc n) x e = ap Err e

-- a call that hands on what turned another one back
pub turned_back : {A : Type 0} (a : Result A Refusal) (r : Refusal) (n : ℕ) (x : A) → IsErrAnd a (λ e. e ≡ r) → number r ≡ n → numbered a ≡ answered n x
turned_back (Ok y) r n x h e = absurd h
turned_back (Err s) r n x h e = answered_err s n x (ap number h ∙ e)

-- the same where there is no answer beside the refusal
pub turned_back_code : {A : Type 0} (a : Result A Refusal) (r : Refusal) (n : ℕ) → IsErrAnd a (λ e. e ≡ r) → number r ≡ n → code a ≡ n
turned_back_code (Ok y) r n h e = absurd h
turned_back_code (Err s) r n h e = ap number h ∙ e

-- what is answered, by the code of a check before it
pub answered_code : {A B : Type 0} (r : Result B Refusal) (n : ℕ) (x : A) → code r ≡ n → code r ≡ 0 → numbered (Ok x) ≡ answered n x
answered_code r n x e z = answered_ok n x (sym z ∙ e)

-- a refusal that was found, or, where it is 0, what the later checks say
abbrev pub first : ℕ → ℕ → ℕ
first zero later = later
first (suc n) later = suc n

-- a check fails: those before it are skipped
pub check_hit : (n : ℕ) (b : Bool) (later : ℕ) → b ≡ true → check n b later ≡ n
check_hit n true later e = refl
check_hit n false later e = absurd (false≢true e)

pub check_skip : (n : ℕ) (b : Bool) (later r : ℕ) → b ≡ false → later ≡ r → check n b later ≡ r
check_skip n true later r e f = absurd (true≢false e)
check_skip n false later r e f = f

-- none fails
pub check_none : (n : ℕ) (b : Bool) (later : ℕ) → check (suc n) b later ≡ 0 → (b ≡ false) × (later ≡ 0)
check_none n true later e = absurd (omega arith)
check_none n false later e = (refl, e)

-- later checks count only where this one passes
pub check_same : (n : ℕ) (b : Bool) (x y : ℕ) → (b ≡ false → x ≡ y) → check n b x ≡ check n b y
check_same n true x y f = refl
check_same n false x y f = f refl

-- ---- a refusal of a part, then the later checks

pub first_hit : (a later : ℕ) → a ≢ 0 → first a later ≡ a
first_hit zero later h = absurd (h refl)
first_hit (suc a) later h = refl

pub first_skip : (a later r : ℕ) → a ≡ 0 → later ≡ r → first a later ≡ r
first_skip zero later r e f = f
first_skip (suc a) later r e f = absurd (omega arith)

pub first_none : (a later : ℕ) → first a later ≡ 0 → (a ≡ 0) × (later ≡ 0)
first_none zero later e = (refl, e)
first_none (suc a) later e = absurd (omega arith)

pub first_same : (a x y : ℕ) → (a ≡ 0 → x ≡ y) → first a x ≡ first a y
first_same zero x y f = f refl
first_same (suc a) x y f = refl

-- a part that turned the call back: the later checks are skipped
pub first_number : (r : Refusal) (a later : ℕ) → number r ≡ a → number r ≡ first a later
first_number r a later e = e ∙ sym (first_hit a later (λ z. number_positive r (e ∙ z)))

-- ---- a row of tests: the one that holds, those before it that do not
pub hit : (a b : Bool) → true ≡ a → true ≡ (a || b)
hit true b e = refl
hit false b e = absurd (true≢false e)

pub skip : (r a b : Bool) → a ≡ false → r ≡ b → r ≡ (a || b)
skip r true b e f = absurd (true≢false e)
skip r false b e f = f

pub none : (a b : Bool) → a ≡ false → b ≡ false → (a || b) ≡ false
none true b e f = absurd (true≢false e)
none false b e f = f
