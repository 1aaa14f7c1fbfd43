-- What an answer of `epsdelta_bisimilar` says of the refusal, the test and the bytes; and how `min_epsilon` ends by its answer at ε = 1.
use mathlib.Core.Path.{◌≡◌, refl, sym, ap, ◌∙◌}
use Prim.Native.Nat.{ℕ, zero, suc}
use mathlib.Core.Bool.{Bool, true, false, true≢false}
use mathlib.Core.List.{List}
use lib.ListN.{length, replicate}
use lib.Ieee.{Float}
use Rattle.std.specs.Prelude.{Option, Result, Some, None, Ok, Err}
use Rattle.std.specs.Result.{is_ok}
use Rattle.numbers.specs.Real.{one}
use Rattle.bisim_core.specs.Data.{columns_of}
use Rattle.epsdelta_theory.specs.MinEpsilon.{Search, min_epsilon}
use Rattle.epsdelta_theory.proofs.MinEpsilon.{one_valid, refused_alike, search_none, below_one, below_one_lem}
use Rattle.epsdelta.specs.declared.asked.Sides.{Sides}
use Rattle.epsdelta.specs.Outcome.{Outcome, ends}
use Rattle.epsdelta.specs.Sides.{of_sides}
use Rattle.bisimilar.specs.Outcome.{judged_by, bisimilar_outcome}
use Rattle.min_epsilon.specs.Outcome.{found, settled, outcome, alike, refusal}
use Rattle.min_epsilon.proofs.Runs.{zero_length, zero_again}

-- ---- an answer

-- it is not refused, the test says b, and every byte is zero
pub record Judged (n : ℕ) (says b : Bool) (out store : List ℕ) : Type 0 where
  pub unrefused : n ≡ 0
  pub said : says ≡ b
  pub cleared : out ≡ replicate (length store) 0

-- the value of an answer, and the number of a refusal
abbrev value_or : {A : Type 0} → A → Result A ℕ → A
value_or y (Ok x) = x
value_or y (Err n) = y

abbrev number_or : {A : Type 0} → ℕ → Result A ℕ → ℕ
number_or k (Ok x) = k
number_or k (Err n) = n

answer_of : {a b : Result Bool ℕ} {x y : List ℕ} → ends a x ≡ ends b y → a ≡ b
answer_of e = ap (λ (o : Outcome (Result Bool ℕ)). o.answer) e

bytes_of : {a b : Result Bool ℕ} {x y : List ℕ} → ends a x ≡ ends b y → x ≡ y
bytes_of e = ap (λ (o : Outcome (Result Bool ℕ)). o.relation) e

module _ (store out : List ℕ) where
  pub judged : (n : ℕ) (says b : Bool) → ends (Ok says) out ≡ judged_by n b store → Judged n says b out store
  judged zero says b e = record { unrefused = refl; said = ap (value_or says) (answer_of e); cleared = bytes_of e }
  judged (suc n) says b e = absurd (true≢false (ap is_ok (answer_of e)))

  -- the number, and the bytes as they were
  pub judged_refused : (n k : ℕ) (b : Bool) (x : Search) → ends (Err k) out ≡ judged_by n b store → ends (Err k) out ≡ settled n store x
  judged_refused zero k b x e = absurd (true≢false (sym (ap is_ok (answer_of e))))
  judged_refused (suc n) k b x e = ap (λ (m : ℕ). ends (Err m) out) (ap (number_or 0) (answer_of e)) ∙ ap (ends (Err (suc n))) (bytes_of e)

-- ---- by the answer at ε = 1

module _ (B : Sides) (ρ : Float) (store out : List ℕ) where
  n : ℕ
  n = refusal B ρ (length store)

  -- the refusal at ε = 1 is that of `min_epsilon`
  at_one : (v : Result Bool ℕ) → ends v out ≡ of_sides bisimilar_outcome B one ρ store → ends v out ≡ judged_by n (alike B ρ one) store
  unfolding n
  at_one v e = e ∙ ap (λ (k : ℕ). judged_by k (alike B ρ one) store) (refused_alike B.left.model.shape (columns_of B.left.model) B.right.model.shape (columns_of B.right.model) B.left.classes.now B.right.classes.now one ρ (length store) one_valid)

  pub ends_refused : (k : ℕ) → ends (Err k) out ≡ of_sides bisimilar_outcome B one ρ store
      → ends (Err k) out ≡ of_sides outcome B ρ store
  unfolding n
  ends_refused k e = judged_refused store out n k (alike B ρ one) (of_sides min_epsilon B ρ) (at_one (Err k) e)

  module _ (says : Bool) (e : ends (Ok says) out ≡ of_sides bisimilar_outcome B one ρ store) where
    j : Judged n says (alike B ρ one) out store
    j = judged store out n says (alike B ρ one) (at_one (Ok says) e)

    -- what comes next is not refused
    pub next_allowed : refusal B ρ (length out) ≡ 0
    unfolding n
    next_allowed = ap (refusal B ρ) (zero_length out store j.cleared) ∙ j.unrefused

    -- it holds there
    pub ends_at : (x : Float) (last : List ℕ) → says ≡ true → x ≡ below_one (alike B ρ) → last ≡ replicate (length out) 0
        → ends (Ok (Some x)) last ≡ of_sides outcome B ρ store
    unfolding n min_epsilon
    ends_at x last t f z =
        ap (ends (Ok (Some x))) (zero_again last out store j.cleared z)
        ∙ ap (λ (l : Option Float). ends (Ok l) (replicate (length store) 0)) (ap Some f ∙ ap found (below_one_lem (alike B ρ) (sym j.said ∙ t)))
        ∙ ap (λ (k : ℕ). settled k store (of_sides min_epsilon B ρ)) (sym j.unrefused)

    -- it does not
    pub ends_absent : says ≡ false → ends (Ok None) out ≡ of_sides outcome B ρ store
    unfolding n min_epsilon
    ends_absent t =
        ap (ends (Ok None)) j.cleared
        ∙ ap (λ (x : Search). settled 0 store x) (sym (search_none (alike B ρ) (sym j.said ∙ t)))
        ∙ ap (λ (k : ℕ). settled k store (of_sides min_epsilon B ρ)) (sym j.unrefused)
