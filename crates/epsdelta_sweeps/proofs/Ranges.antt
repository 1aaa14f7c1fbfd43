-- What `all` answers over a range, in the words of `every`.
use Rattle.std.proofs.Common.{◌≡◌, refl, sym, ap, ◌∙◌, ℕ, ◌<◌, Bool, true, false, get_or, arith}
use mathlib.Core.Bool.{true≢false}
use Rattle.std.specs.List.{list_all, range_with_len}
use Rattle.std.proofs.lemmas.List.FromFn.{length-range_with_len, get_or-range_with_len}
use Rattle.numbers.specs.Lists.{every}
use Rattle.numbers.proofs.Alls.{all_at, all_of, every_at, every_of}
use Rattle.numbers.proofs.Loops.{list_all_is}

at : (n i : ℕ) → i < n → get_or (range_with_len 0 n) i 0 ≡ i
at n i h = omega (arith, get_or-range_with_len 0 n i 0 h)

module _ (t : ℕ → Bool) (n : ℕ) where
  pub each_of_range : list_all t (range_with_len 0 n) ≡ true → (i : ℕ) → i < n → t i ≡ true
  each_of_range e i h =
      let z = length-range_with_len 0 n in
      sym (ap t (at n i h)) ∙ all_at t (range_with_len 0 n) 0 (sym (list_all_is t (range_with_len 0 n)) ∙ e) i (omega arith)

  pub every_of_range : list_all t (range_with_len 0 n) ≡ every t n
  every_of_range = pick (every t n) refl
    where
      held : every t n ≡ true → list_all t (range_with_len 0 n) ≡ true
      held e =
          let z = length-range_with_len 0 n in
          list_all_is t (range_with_len 0 n) ∙ all_of t (range_with_len 0 n) 0 (λ j h. let k : j < n = omega arith in ap t (at n j k) ∙ every_at t n e j k)

      not_held : every t n ≡ false → (b : Bool) → list_all t (range_with_len 0 n) ≡ b → b ≡ false
      not_held e true f = absurd (true≢false (sym (every_of t n (each_of_range f)) ∙ e))
      not_held e false f = refl

      pick : (b : Bool) → every t n ≡ b → list_all t (range_with_len 0 n) ≡ b
      pick true e = held e
      pick false e = not_held e _ refl
