-- What an iterator's `all` over a range answers, in the words of our definitions.
use Rattle.std.proofs.Common.{◌≡◌, refl, ap, ◌∙◌, ℕ, zero, suc, ◌+◌, Bool, true, false, ◌&&◌, List, [], ◌∷◌, ◌++◌}
use native.Mathlib.Omega.{arith}
use Rattle.std.specs.List.{list_all, range_with_len}
use Rattle.std.proofs.lemmas.List.Folds.{list_all-append}
use Rattle.numbers.specs.Lists.{every}

range_last : (a n : ℕ) → range_with_len a (suc n) ≡ range_with_len a n ++ ((a + n) ∷ [])
range_last a zero = let e : a ≡ a + zero = omega arith in ap (λ (x : ℕ). x ∷ []) e
range_last a (suc n) =
    let e : a + 1 + n ≡ a + suc n = omega arith in
    ap (λ (l : List ℕ). a ∷ l) (range_last (a + 1) n ∙ ap (λ (x : ℕ). range_with_len (a + 1) n ++ (x ∷ [])) e)

-- the test of the last number first, or last
turned : (a b : Bool) → (b && (a && true)) ≡ (a && b)
turned true true = refl
turned true false = refl
turned false true = refl
turned false false = refl

pub all_in_range : (t : ℕ → Bool) (n : ℕ) → list_all t (range_with_len 0 n) ≡ every t n
unfolding every
all_in_range t zero = refl
all_in_range t (suc n) =
    let e : 0 + n ≡ n = omega arith in
    ap (list_all t) (range_last 0 n ∙ ap (λ (x : ℕ). range_with_len 0 n ++ (x ∷ [])) e) ∙ list_all-append t (range_with_len 0 n) (n ∷ []) ∙ turned (t n) (list_all t (range_with_len 0 n))
    ∙ ap (λ (b : Bool). t n && b) (all_in_range t n)
