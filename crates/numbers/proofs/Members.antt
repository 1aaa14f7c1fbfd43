-- Members of a list, by where they stand; and lists that have no member twice.
use mathlib.Core.Path.{◌≡◌, refl, sym, subst, subst⁻¹}
use mathlib.Core.Logic.{◌≢◌, ◌⊎◌, inl, inr}
use Prim.Native.Nat.{ℕ, zero, suc, ◌<◌}
use mathlib.Core.List.{List, [], ◌∷◌, ◌++◌, reverse, reverse-cons}
use native.Mathlib.Omega.{arith}
use native.Mathlib.Nat.{le_of_suc-le-suc, not-suc-le-zero}
use lib.ListN.{length, get_or}
use Rattle.numbers.specs.Lists.{In}

-- no member twice
abbrev pub Apart : {A : Type 0} → List A → Type 0
Apart [] = Unit {0}
Apart (x ∷ xs) = (In x xs → ⊥) × Apart xs

module _ {A : Type 0} where
  pub in_left : (x : A) (xs ys : List A) → In x xs → In x (xs ++ ys)
  in_left x (z ∷ xs) ys (inl e) = inl e
  in_left x (z ∷ xs) ys (inr h) = inr (in_left x xs ys h)
  in_left x [] ys x'' = elim x'' [ ]

  pub in_right : (x : A) (xs ys : List A) → In x ys → In x (xs ++ ys)
  in_right x [] ys h = h
  in_right x (z ∷ xs) ys h = inr (in_right x xs ys h)

  pub in_last : (x : A) (xs : List A) → In x (xs ++ (x ∷ []))
  in_last x xs = in_right x xs (x ∷ []) (inl refl)

  -- in one part or the other
  pub in_append : (x : A) (xs ys : List A) → In x (xs ++ ys) → In x xs ⊎ In x ys
  in_append x [] ys h = inr h
  in_append x (z ∷ xs) ys (inl e) = inl (inl e)
  in_append x (z ∷ xs) ys (inr h) = pick (in_append x xs ys h)
    where
      pick : In x xs ⊎ In x ys → In x (z ∷ xs) ⊎ In x ys
      pick (inl i) = inl (inr i)
      pick (inr i) = inr i

  pub in_snoc : (x y : A) (xs : List A) → In x (xs ++ (y ∷ [])) → In x xs ⊎ (x ≡ y)
  in_snoc x y xs h = pick (in_append x xs (y ∷ []) h)
    where
      pick : In x xs ⊎ In x (y ∷ []) → In x xs ⊎ (x ≡ y)
      pick (inl i) = inl i
      pick (inr (inl e)) = inr e
      pick (inr (inr x3)) = elim x3 [ ]

  pub in_reverse : (x : A) (xs : List A) → In x (reverse xs) → In x xs
  in_reverse x [] h = h
  in_reverse x (y ∷ ys) h = pick (in_reverse x ys) (in_snoc x y (reverse ys) (subst (In x) (reverse-cons y ys) h))
    where
      pick : (In x (reverse ys) → In x ys) → In x (reverse ys) ⊎ (x ≡ y) → In x (y ∷ ys)
      pick r (inl i) = inr (r i)
      pick r (inr e) = inl e

  -- ---- by place

  pub in_at : (xs : List A) (i : ℕ) (z : A) → i < length xs → In (get_or xs i z) xs
  in_at [] i z h = absurd (not-suc-le-zero h)
  in_at (x ∷ xs) zero z h = inl refl
  in_at (x ∷ xs) (suc i) z h = inr (in_at xs i z (le_of_suc-le-suc h))

  pub at_in : (x : A) (xs : List A) (z : A) → In x xs → (i : ℕ) × (i < length xs) × (get_or xs i z ≡ x)
  at_in x (y ∷ ys) z (inl e) = (zero, omega arith, sym e)
  at_in x (y ∷ ys) z (inr h) = let (i, l, e) = at_in x ys z h in (suc i, omega arith, e)
  at_in x [] z x'' = elim x'' [ ]

  -- ---- no member twice

  pub apart_snoc : (xs : List A) (x : A) → Apart xs → (In x xs → ⊥) → Apart (xs ++ (x ∷ []))
  apart_snoc [] x a h = (λ i. absurd i, tt)
  apart_snoc (z ∷ xs) x a h = (λ i. pick (in_snoc z x xs i), apart_snoc xs x a.1 (λ i. h (inr i)))
    where
      pick : In z xs ⊎ (z ≡ x) → ⊥
      pick (inl i) = a.0 i
      pick (inr e) = h (inl (sym e))

  pub apart_reverse : (xs : List A) → Apart xs → Apart (reverse xs)
  apart_reverse [] a = tt
  apart_reverse (x ∷ xs) a = subst⁻¹ Apart (reverse-cons x xs) (apart_snoc (reverse xs) x (apart_reverse xs a.1) (λ i. a.0 (in_reverse x xs i)))

  -- a later member is another
  pub apart_ne : (x y : A) (xs : List A) → Apart (x ∷ xs) → In y xs → y ≢ x
  apart_ne x y xs a i e = a.0 (subst (λ (z : A). In z xs) e i)
