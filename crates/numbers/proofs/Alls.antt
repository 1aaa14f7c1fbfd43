-- Laws of tests of every entry, of some entry, and of every number below a count.
use mathlib.Core.Path.{◌≡◌, refl, sym, subst, ap, ◌∙◌}
use mathlib.Core.Logic.{◌⊎◌, inl, inr, ◌≢◌}
use mathlib.Core.Bool.{Bool, true, false, ◌&&◌, true≢false}
use Prim.Native.Nat.{ℕ, zero, suc, ◌+◌, ◌≤◌, ◌<◌}
use mathlib.Core.List.{List, [], ◌∷◌, ◌++◌}
use native.Mathlib.Omega.{arith}
use native.Mathlib.Numerals.{add-one}
use native.Mathlib.Nat.{le_of_suc-le-suc, not-suc-le-zero}
use lib.ListN.{length, get_or, take}
use lib.Seq.{slice, slice-cons, slice_empty, length-take-le, get_or-take}
use Rattle.numbers.specs.Lists.{every, all}
use Rattle.numbers.proofs.Bools.{and_t, eq_or_ne}

module _ {ℓ} {A : Type ℓ} (t : A → Bool) where
  -- a loop over entries i to n - 1: entry i fails, or holds and the rest decides, or there is none
  module _ (l : List A) (n i : ℕ) (z : A) (h : i < n) (k : n ≤ length l) where
    pub all_stop : t (get_or l i z) ≡ false → all t (slice i n l) ≡ false
    unfolding all
    all_stop e = ap (all t) (slice-cons i n l z h k) ∙ rw e

    pub all_on : t (get_or l i z) ≡ true → all t (slice i n l) ≡ all t (slice (i + 1) n l)
    unfolding all
    all_on e = rw (add-one i) (ap (all t) (slice-cons i n l z h k) ∙ rw e)

  pub all_end : (l : List A) (n i : ℕ) → i ≡ n → all t (slice i n l) ≡ true
  unfolding all
  all_end l n i e = ap (all t) (ap (λ (j : ℕ). slice j n l) e ∙ slice_empty n l)

  -- what holds of all holds of each
  pub all_at : (l : List A) (z : A) → all t l ≡ true → (j : ℕ) → j < length l → t (get_or l j z) ≡ true
  unfolding all
  all_at [] z e j h = absurd (not-suc-le-zero h)
  all_at (x ∷ l) z e zero h = (and_t (t x) (all t l) e).0
  all_at (x ∷ l) z e (suc j) h = all_at l z (and_t (t x) (all t l) e).1 j (le_of_suc-le-suc h)

  pub all_front : (l : List A) (z : A) (n : ℕ) → n ≤ length l → all t (take n l) ≡ true → (j : ℕ) → j < n → t (get_or l j z) ≡ true
  all_front l z n k e j h = subst (λ (x : A). t x ≡ true) (get_or-take n l j z h) (all_at (take n l) z e j (let q = length-take-le n l k in omega arith))

  -- and the other way round
  pub all_of : (l : List A) (z : A) → ((j : ℕ) → j < length l → t (get_or l j z) ≡ true) → all t l ≡ true
  unfolding all
  all_of [] z f = refl
  all_of (x ∷ l) z f = ap (λ (b : Bool). b && all t l) (f zero (omega arith)) ∙ all_of l z (λ j h. f (suc j) (omega arith))

  pub all_append : (a b : List A) → all t (a ++ b) ≡ (all t a && all t b)
  unfolding all
  all_append [] b = refl
  all_append (x ∷ a) b = ap (λ (r : Bool). t x && r) (all_append a b) ∙ assoc (t x) (all t a) (all t b)
    where
      assoc : (p q r : Bool) → (p && (q && r)) ≡ ((p && q) && r)
      assoc true q r = refl
      assoc false q r = refl

module _ (t : ℕ → Bool) where
  -- a loop over numbers has passed those below i
  pub every_none : every t 0 ≡ true
  unfolding every
  every_none = refl

  pub every_next : (i : ℕ) → every t i ≡ true → t i ≡ true → every t (i + 1) ≡ true
  unfolding every
  every_next i e f = rw (add-one i, f) e

  pub every_at : (n : ℕ) → every t n ≡ true → (i : ℕ) → i < n → t i ≡ true
  unfolding every
  every_at zero e i h = absurd (not-suc-le-zero h)
  every_at (suc n) e i h = pick (λ l. every_at n (and_t (t n) (every t n) e).1 i l) (eq_or_ne i n)
    where
      pick : (i < n → t i ≡ true) → (i ≡ n) ⊎ (i ≢ n) → t i ≡ true
      pick ih (inl p) = ap t p ∙ (and_t (t n) (every t n) e).0
      pick ih (inr p) = ih (omega arith)

  pub every_of : (n : ℕ) → ((i : ℕ) → i < n → t i ≡ true) → every t n ≡ true
  unfolding every
  every_of zero f = refl
  every_of (suc n) f = ap (λ (b : Bool). b && every t n) (f n (omega arith)) ∙ every_of n (λ i h. f i (omega arith))

  -- one that fails decides
  pub every_not : (n i : ℕ) → i < n → t i ≡ false → every t n ≡ false
  every_not n i h e = pick (every t n) refl
    where
      pick : (b : Bool) → every t n ≡ b → b ≡ false
      pick true p = absurd (true≢false (sym (every_at n p i h) ∙ e))
      pick false p = refl

-- two tests that agree on every number below the count
pub every_same : (t u : ℕ → Bool) (n : ℕ) → ((i : ℕ) → i < n → t i ≡ u i) → every t n ≡ every u n
unfolding every
every_same t u zero f = refl
every_same t u (suc n) f = ap (λ (b : Bool). b && every t n) (f n (omega arith)) ∙ ap (λ (b : Bool). u n && b) (every_same t u n (λ i h. f i (omega arith)))

-- a test of the first n entries, by the list or by their numbers
pub all_take {ℓ} : {A : Type ℓ} (t : A → Bool) (l : List A) (z : A) (n : ℕ) → n ≤ length l → all t (take n l) ≡ every (λ i. t (get_or l i z)) n
all_take t l z n k = pick (all t (take n l)) refl
  where
    not_held : all t (take n l) ≡ false → (b : Bool) → every (λ i. t (get_or l i z)) n ≡ b → false ≡ b
    not_held e true f = absurd (true≢false (sym (all_of t (take n l) z (λ j h. let i : j < n = (let q = length-take-le n l k in omega arith) in ap t (get_or-take n l j z i) ∙ every_at (λ i. t (get_or l i z)) n f j i)) ∙ e))
    not_held e false f = refl

    pick : (b : Bool) → all t (take n l) ≡ b → b ≡ every (λ i. t (get_or l i z)) n
    pick true e = sym (every_of (λ i. t (get_or l i z)) n (all_front t l z n k e))
    pick false e = not_held e _ refl
