-- Distinct values counted: where every value of one list is one of another, the other has at least as many distinct ones.
use mathlib.Core.Path.{◌≡◌, refl, sym, subst, subst⁻¹, ap}
use mathlib.Core.Logic.{◌⊎◌, inl, inr, ◌≢◌}
use mathlib.Core.Bool.{Bool, true, false}
use Prim.Native.Nat.{ℕ, suc, ◌≤◌, ◌<◌}
use mathlib.Core.List.{List, [], ◌∷◌, ◌++◌}
use native.Mathlib.Omega.{arith}
use lib.Dec.{eqb}
use lib.ListN.{length, length-append}
use borrow.Author.Tests.{eqb-true}
use Rattle.numbers.specs.Lists.{In}
use Rattle.numbers.specs.Search.{here, seek}
use Rattle.numbers.proofs.Bools.{lt_or_ge}
use Rattle.numbers.proofs.Members.{Apart, in_left, in_right, in_append, in_snoc, apart_snoc, apart_ne}
use Rattle.bisim_core.specs.Ids.{intern, distinct}
use Rattle.bisim_core.proofs.Distinct.{intern_old, intern_new}

-- ---- what is found is a member

seek_in : (x : ℕ) (l : List ℕ) → seek x l < length l → In x l
unfolding seek
seek_in x [] h = absurd (omega arith)
seek_in x (y ∷ l) h = pick (λ g. seek_in x l g) (eqb y x) refl h
  where
    pick : (seek x l < length l → In x l) → (b : Bool) → eqb y x ≡ b → here b (seek x l) < suc (length l) → In x (y ∷ l)
    pick ih true e h = inl (sym (eqb-true y x e))
    pick ih false e h = inr (ih (omega arith))

in_seek : (x : ℕ) (l : List ℕ) → In x l → seek x l < length l
unfolding seek
in_seek x (y ∷ l) (inl e) = let z = Rattle.numbers.proofs.Seeks.seek_here x y l (sym e) in omega arith
in_seek x (y ∷ l) (inr i) = pick (in_seek x l i) (eqb y x)
  where
    pick : seek x l < length l → (b : Bool) → here b (seek x l) < suc (length l)
    pick h true = omega arith
    pick h false = omega arith
in_seek x [] x'' = elim x'' [ ]

-- ---- the members of interned values

-- a value is known, or new
intern_by : (P : List ℕ → Type 0) (known : List ℕ) (x : ℕ) (xs : List ℕ) → (In x known → P (intern known xs)) → ((In x known → ⊥) → P (intern (known ++ (x ∷ [])) xs)) → P (intern known (x ∷ xs))
intern_by P known x xs old new = pick (lt_or_ge (seek x known) (length known))
  where
    pick : (seek x known < length known) ⊎ (length known ≤ seek x known) → P (intern known (x ∷ xs))
    pick (inl g) = subst⁻¹ P (intern_old known x xs g) (old (seek_in x known g))
    pick (inr g) = subst⁻¹ P (intern_new known x xs g) (new (λ i. let h = in_seek x known i in omega arith))

in_known : (x : ℕ) (known xs : List ℕ) → In x known → In x (intern known xs)
unfolding intern
in_known x known [] i = i
in_known x known (y ∷ xs) i = intern_by (In x) known y xs (λ k. in_known x known xs i) (λ k. in_known x (known ++ (y ∷ [])) xs (in_left x known (y ∷ []) i))

in_interned : (x : ℕ) (known xs : List ℕ) → In x xs → In x (intern known xs)
in_interned x known (y ∷ xs) (inl e) =
    intern_by (In x) known y xs (λ k. in_known x known xs (subst⁻¹ (λ (z : ℕ). In z known) e k)) (λ k. in_known x (known ++ (y ∷ [])) xs (in_right x known (y ∷ []) (inl e)))
in_interned x known (y ∷ xs) (inr i) = intern_by (In x) known y xs (λ k. in_interned x known xs i) (λ k. in_interned x (known ++ (y ∷ [])) xs i)
in_interned x known [] x'' = elim x'' [ ]

pub interned_in : (x : ℕ) (known xs : List ℕ) → In x (intern known xs) → In x known ⊎ In x xs
unfolding intern
interned_in x known [] i = inl i
interned_in x known (y ∷ xs) i =
    intern_by (λ l. In x l → In x known ⊎ In x (y ∷ xs)) known y xs (λ k j. old (interned_in x known xs j)) (λ k j. new (interned_in x (known ++ (y ∷ [])) xs j)) i
  where
    old : In x known ⊎ In x xs → In x known ⊎ In x (y ∷ xs)
    old (inl j) = inl j
    old (inr j) = inr (inr j)

    last : In x known ⊎ (x ≡ y) → In x known ⊎ In x (y ∷ xs)
    last (inl k) = inl k
    last (inr e) = inr (inl e)

    new : In x (known ++ (y ∷ [])) ⊎ In x xs → In x known ⊎ In x (y ∷ xs)
    new (inl j) = last (in_snoc x y known j)
    new (inr j) = inr (inr j)

pub apart_interned : (known xs : List ℕ) → Apart known → Apart (intern known xs)
unfolding intern
apart_interned known [] a = a
apart_interned known (y ∷ xs) a = intern_by Apart known y xs (λ k. apart_interned known xs a) (λ k. apart_interned (known ++ (y ∷ [])) xs (apart_snoc known y a k))

-- ---- a list without repeats has no more entries than one that holds them all

-- a list around one of its members
pub record Around (x : ℕ) (l : List ℕ) : Type 0 where
  pub before : List ℕ
  pub after : List ℕ
  pub whole : l ≡ before ++ (x ∷ after)

around : (x : ℕ) (l : List ℕ) → In x l → Around x l
around x (y ∷ l) (inl e) = record { before = []; after = l; whole = ap (λ (z : ℕ). z ∷ l) (sym e) }
around x (y ∷ l) (inr i) = let A = around x l i in record { before = y ∷ A.before; after = A.after; whole = ap (λ (m : List ℕ). y ∷ m) A.whole }
around x [] x'' = elim x'' [ ]

pub fits : (X K : List ℕ) → Apart X → ((x : ℕ) → In x X → In x K) → length X ≤ length K
fits [] K a h = omega arith
fits (x ∷ X) K a h =
    let A = around x K (h x (inl refl)) in
    let ih = fits X (A.before ++ A.after) a.1 (λ y i. pick A.before A.after y (apart_ne x y X a i) (in_append y A.before (x ∷ A.after) (subst (In y) A.whole (h y (inr i))))) in
    let e = ap length A.whole in
    let f = length-append A.before (x ∷ A.after) in
    let g = length-append A.before A.after in
    omega arith
  where
    pick : (B F : List ℕ) (y : ℕ) → y ≢ x → In y B ⊎ In y (x ∷ F) → In y (B ++ F)
    pick B F y n (inl j) = in_left y B F j
    pick B F y n (inr (inl e)) = absurd (n e)
    pick B F y n (inr (inr j)) = in_right y B F j

pub distinct_fewer : (xs ys : List ℕ) → ((x : ℕ) → In x xs → In x ys) → length (distinct xs) ≤ length (distinct ys)
distinct_fewer xs ys h = fits (distinct xs) (distinct ys) (apart_interned [] xs tt) (λ x i. held x (interned_in x [] xs i))
  where
    held : (x : ℕ) → In x [] ⊎ In x xs → In x (distinct ys)
    held x (inl j) = absurd j
    held x (inr j) = in_interned x [] ys (h x j)
