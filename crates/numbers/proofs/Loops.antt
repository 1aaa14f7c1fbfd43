-- What an iterator's `all` and `position` answer, in the words of our definitions.
use Rattle.std.proofs.Common.{◌≡◌, refl, sym, ap, ◌∙◌, ℕ, ◌+◌, ◌<◌, Bool, true, false, ◌&&◌, not, cond, List, [], ◌∷◌, length, eqb, ltb, Some, None, unwrap_or}
use native.Mathlib.Omega.{arith}
use mathlib.Core.Bool.{true≢false}
use Rattle.std.specs.List.{list_all, position_or_len, range_with_len}
use Rattle.std.proofs.lemmas.List.FromFn.{length-range_with_len, get_or-range_with_len}
use Rattle.numbers.specs.Lists.{all, every}
use Rattle.numbers.specs.Search.{seek, here, place}
use Rattle.numbers.proofs.Seeks.{seek_le}
use Rattle.numbers.proofs.Alls.{all_at, all_of, every_at, every_of}

pub list_all_is : {A : Type 0} (t : A → Bool) (l : List A) → list_all t l ≡ all t l
unfolding all
list_all_is t [] = refl
list_all_is t (x ∷ l) = ap (λ b. t x && b) (list_all_is t l)

pub position_is : (x : ℕ) (l : List ℕ) → position_or_len (λ y. eqb y x) l ≡ seek x l
unfolding seek
position_is x [] = refl
position_is x (y ∷ l) = step (eqb y x) (position_is x l)
  where
    step : (b : Bool) {p q : ℕ} → p ≡ q → cond (not b) (1 + p) 0 ≡ here b q
    step true e = refl
    step false e = omega (arith, e)

-- the place of x, or the length where there is none
pub place_or_length : (x : ℕ) (l : List ℕ) → unwrap_or (place x l) (length l) ≡ seek x l
place_or_length x l = step (ltb (seek x l) (length l)) refl
  where
    step : (b : Bool) → ltb (seek x l) (length l) ≡ b → unwrap_or (cond b (Some (seek x l)) None) (length l) ≡ seek x l
    step true e = refl
    step false e = let h = seek_le x l in grind (arith, h, e)

-- what `all` answers over a range
module _ (t : ℕ → Bool) (n : ℕ) where
  pub each_of_range : list_all t (range_with_len 0 n) ≡ true → (i : ℕ) → i < n → t i ≡ true
  each_of_range e i h =
      let z = length-range_with_len 0 n in
      sym (ap t (omega (arith, get_or-range_with_len 0 n i 0 h))) ∙ all_at t (range_with_len 0 n) 0 (sym (list_all_is t (range_with_len 0 n)) ∙ e) i (omega arith)

  pub every_of_range : list_all t (range_with_len 0 n) ≡ every t n
  every_of_range = pick (every t n) refl
    where
      held : every t n ≡ true → list_all t (range_with_len 0 n) ≡ true
      held e =
          let z = length-range_with_len 0 n in
          list_all_is t (range_with_len 0 n) ∙ all_of t (range_with_len 0 n) 0 (λ j h. let k : j < n = omega arith in ap t (omega (arith, get_or-range_with_len 0 n j 0 k)) ∙ every_at t n e j k)

      not_held : every t n ≡ false → (b : Bool) → list_all t (range_with_len 0 n) ≡ b → b ≡ false
      not_held e true f = absurd (true≢false (sym (every_of t n (each_of_range f)) ∙ e))
      not_held e false f = refl

      pick : (b : Bool) → every t n ≡ b → list_all t (range_with_len 0 n) ≡ b
      pick true e = held e
      pick false e = not_held e _ refl
