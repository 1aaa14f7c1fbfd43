-- Laws of `intern`: the values known stand first, every value of the list gets an id, none is listed twice, and there are no more ids than values.
use mathlib.Core.Path.{◌≡◌, refl, sym, subst, ap, ◌∙◌}
use mathlib.Core.Logic.{◌⊎◌, inl, inr}
use mathlib.Core.Bool.{Bool, true, false}
use Prim.Native.Nat.{ℕ, zero, suc, ◌+◌, ◌≤◌, ◌<◌}
use mathlib.Core.List.{List, [], ◌∷◌, ◌++◌, append_assoc, append-nil}
use native.Mathlib.Omega.{arith}
use lib.Dec.{ltb}
use lib.ListN.{length, get_or, length-append, get_or-append}
use lib.Seq.{get_or-append_seam}
use borrow.Author.Tests.{lt-ltb, le-ltb, ltb-true, ltb-false}
use Rattle.numbers.specs.Search.{seek}
use Rattle.numbers.proofs.Seeks.{seek_more, seek_new}
use Rattle.bisim_core.specs.Ids.{noted, intern, distinct}

pub intern_old : (known : List ℕ) (x : ℕ) (xs : List ℕ) → seek x known < length known → intern known (x ∷ xs) ≡ intern known xs
unfolding intern
intern_old known x xs h = ap (λ (b : Bool). intern (noted b x known) xs) (lt-ltb (seek x known) (length known) h)

pub intern_new : (known : List ℕ) (x : ℕ) (xs : List ℕ) → length known ≤ seek x known → intern known (x ∷ xs) ≡ intern (known ++ (x ∷ [])) xs
unfolding intern
intern_new known x xs h = ap (λ (b : Bool). intern (noted b x known) xs) (le-ltb (seek x known) (length known) h)

known_or_new : (x : ℕ) (l : List ℕ) → (seek x l < length l) ⊎ (length l ≤ seek x l)
known_or_new x l = pick (ltb (seek x l) (length l)) refl
  where
    pick : (b : Bool) → ltb (seek x l) (length l) ≡ b → (seek x l < length l) ⊎ (length l ≤ seek x l)
    pick true e = inl (ltb-true _ _ e)
    pick false e = inr (ltb-false _ _ e)

-- the values known stand first
pub intern_keeps : (known xs : List ℕ) → (more : List ℕ) × (intern known xs ≡ known ++ more)
unfolding intern
intern_keeps known [] = ([], sym (append-nil known))
intern_keeps known (x ∷ xs) = pick (known_or_new x known) (intern_keeps known xs) (intern_keeps (known ++ (x ∷ [])) xs)
  where
    pick : (seek x known < length known) ⊎ (length known ≤ seek x known) → (more : List ℕ) × (intern known xs ≡ known ++ more)
        → (more : List ℕ) × (intern (known ++ (x ∷ [])) xs ≡ (known ++ (x ∷ [])) ++ more) → (more : List ℕ) × (intern known (x ∷ xs) ≡ known ++ more)
    pick (inl h) (more, e) q = (more, intern_old known x xs h ∙ e)
    pick (inr h) p (more, e) = (x ∷ more, intern_new known x xs h ∙ e ∙ append_assoc known (x ∷ []) more)

pub intern_seek : (x : ℕ) (known xs : List ℕ) → seek x known < length known → seek x (intern known xs) ≡ seek x known
intern_seek x known xs h = let (more, e) = intern_keeps known xs in ap (seek x) e ∙ seek_more x known more h

pub intern_longer : (known xs : List ℕ) → length known ≤ length (intern known xs)
intern_longer known xs = let (more, e) = intern_keeps known xs in let n = length-append known more in let k = ap length e in omega arith

-- every value of the list has an id
pub intern_has : (known xs : List ℕ) (j : ℕ) → j < length xs → seek (get_or xs j 0) (intern known xs) < length (intern known xs)
intern_has known [] j h = absurd (omega arith)
intern_has known (x ∷ xs) zero h = pick (known_or_new x known)
  where
    pick : (seek x known < length known) ⊎ (length known ≤ seek x known) → seek x (intern known (x ∷ xs)) < length (intern known (x ∷ xs))
    pick (inl g) =
        let e = intern_old known x xs g in
        let a = intern_seek x known xs g in
        let b = intern_longer known xs in
        subst (λ (l : List ℕ). seek x l < length l) (sym e) (omega arith)
    pick (inr g) =
        let e = intern_new known x xs g in
        let n = seek_new x known g in
        let m = length-append known (x ∷ []) in
        let a = intern_seek x (known ++ (x ∷ [])) xs (omega arith) in
        let b = intern_longer (known ++ (x ∷ [])) xs in
        subst (λ (l : List ℕ). seek x l < length l) (sym e) (omega arith)
intern_has known (x ∷ xs) (suc j) h = pick (known_or_new x known) (intern_has known xs j (omega arith)) (intern_has (known ++ (x ∷ [])) xs j (omega arith))
  where
    pick : (seek x known < length known) ⊎ (length known ≤ seek x known) → seek (get_or xs j 0) (intern known xs) < length (intern known xs)
        → seek (get_or xs j 0) (intern (known ++ (x ∷ [])) xs) < length (intern (known ++ (x ∷ [])) xs) → seek (get_or xs j 0) (intern known (x ∷ xs)) < length (intern known (x ∷ xs))
    pick (inl g) p q = subst (λ (l : List ℕ). seek (get_or xs j 0) l < length l) (sym (intern_old known x xs g)) p
    pick (inr g) p q = subst (λ (l : List ℕ). seek (get_or xs j 0) l < length l) (sym (intern_new known x xs g)) q

-- no value is listed twice: each is found where it stands
abbrev pub Single : List ℕ → Type 0
Single l = (i : ℕ) → i < length l → seek (get_or l i 0) l ≡ i

pub single_intern : (known xs : List ℕ) → Single known → Single (intern known xs)
unfolding intern
single_intern known [] s = s
single_intern known (x ∷ xs) s = pick (known_or_new x known) (single_intern known xs s) (λ g. single_intern (known ++ (x ∷ [])) xs (grow g))
  where
    grow : length known ≤ seek x known → Single (known ++ (x ∷ []))
    grow g i h = at (i_cases i)
      where
        total : length (known ++ (x ∷ [])) ≡ length known + 1
        total = length-append known (x ∷ [])

        i_cases : (i : ℕ) → (i < length known) ⊎ (length known ≤ i)
        i_cases i = test (ltb i (length known)) refl
          where
            test : (b : Bool) → ltb i (length known) ≡ b → (i < length known) ⊎ (length known ≤ i)
            test true e = inl (ltb-true _ _ e)
            test false e = inr (ltb-false _ _ e)

        at : (i < length known) ⊎ (length known ≤ i) → seek (get_or (known ++ (x ∷ [])) i 0) (known ++ (x ∷ [])) ≡ i
        at (inl k) =
            let e = get_or-append known (x ∷ []) 0 i k in
            let f = s i k in
            ap (λ (y : ℕ). seek y (known ++ (x ∷ []))) e ∙ seek_more (get_or known i 0) known (x ∷ []) (omega arith) ∙ f
        at (inr k) =
            let t = total in
            let z : i ≡ length known = omega arith in
            ap (λ (y : ℕ). seek (get_or (known ++ (x ∷ [])) y 0) (known ++ (x ∷ []))) z
            ∙ ap (λ (y : ℕ). seek y (known ++ (x ∷ []))) (get_or-append_seam known x [] 0) ∙ seek_new x known g ∙ sym z

    pick : (seek x known < length known) ⊎ (length known ≤ seek x known) → Single (intern known xs) → (length known ≤ seek x known → Single (intern (known ++ (x ∷ [])) xs)) → Single (intern known (x ∷ xs))
    pick (inl g) p q = subst Single (sym (intern_old known x xs g)) p
    pick (inr g) p q = subst Single (sym (intern_new known x xs g)) (q g)

pub single_distinct : (xs : List ℕ) → Single (distinct xs)
single_distinct xs = single_intern [] xs (λ i h. absurd (omega arith))

-- no more are known than there were values
pub intern_most : (known xs : List ℕ) → length (intern known xs) ≤ length known + length xs
unfolding intern
intern_most known [] = omega arith
intern_most known (x ∷ xs) = pick (known_or_new x known) (intern_most known xs) (intern_most (known ++ (x ∷ [])) xs)
  where
    pick : (seek x known < length known) ⊎ (length known ≤ seek x known) → length (intern known xs) ≤ length known + length xs
        → length (intern (known ++ (x ∷ [])) xs) ≤ length (known ++ (x ∷ [])) + length xs → length (intern known (x ∷ xs)) ≤ length known + suc (length xs)
    pick (inl g) p q = let e = ap length (intern_old known x xs g) in omega arith
    pick (inr g) p q = let e = ap length (intern_new known x xs g) in let m = length-append known (x ∷ []) in omega arith

pub distinct_length : (xs : List ℕ) → length (distinct xs) ≤ length xs
distinct_length xs = let a = intern_most [] xs in omega arith
