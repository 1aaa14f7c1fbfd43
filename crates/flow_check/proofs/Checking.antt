-- What `all` over a range and `==` of two slices answer, in words of `every`.
use mathlib.Core.Path.{◌≡◌, refl, sym, ap, ◌∙◌}
use mathlib.Core.Bool.{Bool, true, false, ◌&&◌}
use mathlib.Core.List.{List, [], ◌∷◌}
use Prim.Native.Nat.{ℕ, zero, suc, ◌+◌, ◌≤◌, ◌<◌}
use native.Mathlib.Omega.{arith}
use lib.Dec.{eqb}
use lib.ListN.{get_or, length, take}
use lib.Pointwise.{pointwise}
use Rattle.std.specs.List.{list_all, range_with_len}
use Rattle.numbers.specs.Lists.{every}

swap : (a b c : Bool) → (a && (b && c)) ≡ (b && (a && c))
swap true b c = refl
swap false true c = refl
swap false false c = refl

every_first : (u : ℕ → Bool) (n : ℕ) → every u (suc n) ≡ (u 0 && every (λ i. u (suc i)) n)
unfolding every
every_first u zero = refl
every_first u (suc n) = ap (λ b. u (suc n) && b) (every_first u n) ∙ swap (u (suc n)) (u 0) (every (λ i. u (suc i)) n)

every_none : (u : ℕ → Bool) → every u 0 ≡ true
unfolding every
every_none u = refl

from_on : (t u : ℕ → Bool) (a n : ℕ) → ((i : ℕ) → i < n → t (a + i) ≡ u i) → list_all t (range_with_len a n) ≡ every u n
from_on t u a zero e = sym (every_none u)
from_on t u a (suc n) e =
    let p : t a ≡ u 0 = ap t (omega arith) ∙ e 0 (omega arith) in
    let q : list_all t (range_with_len (a + 1) n) ≡ every (λ i. u (suc i)) n = from_on t (λ i. u (suc i)) (a + 1) n (λ i h. ap t (omega arith) ∙ e (suc i) (omega arith)) in
    rw (p, q) (sym (every_first u n))

pub range_all : (t u : ℕ → Bool) (n : ℕ) → ((i : ℕ) → i < n → t i ≡ u i) → list_all t (range_with_len 0 n) ≡ every u n
range_all t u n e = from_on t u 0 n (λ i h. ap t (omega arith) ∙ e i h)

pub pointwise_every : (xs ys : List ℕ) (n : ℕ) → n ≤ length xs → n ≤ length ys → pointwise eqb (take n xs) (take n ys) ≡ every (λ i. eqb (get_or xs i 0) (get_or ys i 0)) n
unfolding every
pointwise_every xs ys zero k l = refl
pointwise_every [] ys (suc n) k l = absurd (omega arith)
pointwise_every (x ∷ xs) [] (suc n) k l = absurd (omega arith)
pointwise_every (x ∷ xs) (y ∷ ys) (suc n) k l = ap (λ b. eqb x y && b) (pointwise_every xs ys n (omega arith) (omega arith)) ∙ sym (every_first (λ i. eqb (get_or (x ∷ xs) i 0) (get_or (y ∷ ys) i 0)) n)
