-- What `both_models` answers, by the cases of both models.
use mathlib.Core.Path.{◌≡◌, refl, sym, ap, ◌∙◌}
use mathlib.Core.Logic.{◌≢◌}
use Prim.Native.Nat.{ℕ, zero, suc, min}
use native.Mathlib.Omega.{arith}
use Rattle.bisim_core.specs.declared.wlts.Shape.{Shape}
use Rattle.std.specs.Prelude.{Result, Ok, Err, IsOkAnd, IsErrAnd, MatchResult}
use Rattle.numbers.specs.declared.refusal.Refusal.{Refusal}
use Rattle.numbers.specs.Refuse.{number, numbered, code}
use Rattle.numbers.proofs.Refuses.{number_positive}
use Rattle.parts.specs.Earlier.{earlier}
use Rattle.parts.proofs.Earlier.{of_left}
use Rattle.card_models.specs.Together.{both}

-- an answer whose value is dropped has the same refusal
pub same_code : {A B : Type 0} (P : A → B → Type 0) (x : Result A Refusal) (l : Result B Refusal) → MatchResult x (λ a. IsOkAnd l (P a)) (λ e. l ≡ Err e) → code l ≡ code x
same_code P (Ok a) (Ok u) m = refl
same_code P (Ok a) (Err e) m = absurd m
same_code P (Err e) l m = ap code m

of_two : (a b : ℕ) → a ≢ 0 → b ≢ 0 → earlier a b ≡ min a b
of_two zero b n m = absurd (n refl)
of_two (suc a) zero n m = absurd (m refl)
of_two (suc a) (suc b) n m = omega arith

is_both : (x y : Result Shape Refusal) → earlier (code x) (code y) ≢ 0 → Err (earlier (code x) (code y)) ≡ both (numbered x) (numbered y)
is_both (Ok a) (Ok b) n = absurd (n refl)
is_both (Ok a) (Err s) n = refl
is_both (Err m) (Ok b) n = ap Err (sym (of_left (number m) 0 refl))
is_both (Err m) (Err s) n = ap Err (of_two (number m) (number s) (number_positive m) (number_positive s))

module _ (x y : Result Shape Refusal) (l r : ℕ) (p : l ≡ code x) (q : r ≡ code y) where
  of_codes : earlier l r ≡ earlier (code x) (code y)
  of_codes = ap (λ (n : ℕ). earlier n r) p ∙ ap (earlier (code x)) q

  -- what turns one back
  pub both_refused : (z : Result (Shape × Shape) Refusal) (s : Refusal) → IsErrAnd z (λ e. e ≡ s) → number s ≡ earlier l r → numbered z ≡ both (numbered x) (numbered y)
  both_refused (Ok t) s h e = absurd h
  both_refused (Err t) s h e =
      let f = ap number h ∙ e ∙ of_codes in
      ap Err f ∙ is_both x y (λ z. number_positive t (f ∙ z))
