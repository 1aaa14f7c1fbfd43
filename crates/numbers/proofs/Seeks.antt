-- Laws of `seek`.
use mathlib.Core.Path.{◌≡◌, refl, sym, ap, ◌∙◌}
use mathlib.Core.Bool.{Bool, true, false}
use Prim.Native.Nat.{ℕ, suc, ◌+◌, ◌≤◌, ◌<◌}
use mathlib.Core.List.{List, [], ◌∷◌, ◌++◌}
use native.Mathlib.Omega.{arith}
use native.Mathlib.Numerals.{add-one}
use lib.Dec.{eqb}
use lib.ListN.{length, get_or}
use lib.Seq.{slice, slice-cons, slice_empty}
use borrow.Author.Tests.{eq-eqb, ne_eqb}
use Rattle.numbers.specs.Search.{here, seek}

pub seek_here : (x y : ℕ) (ys : List ℕ) → y ≡ x → seek x (y ∷ ys) ≡ 0
unfolding seek
seek_here x y ys e = rw (eq-eqb y x e)

pub seek_past : (x y : ℕ) (ys : List ℕ) → (y ≡ x → ⊥) → seek x (y ∷ ys) ≡ suc (seek x ys)
unfolding seek
seek_past x y ys e = rw (ne_eqb y x e)

-- ---- the loop of `seek`: from i on

pub sought : (x : ℕ) (l : List ℕ) (n i : ℕ) → i < n → n ≤ length l → get_or l i 0 ≡ x → seek x (slice i n l) ≡ 0
sought x l n i h k e = ap (seek x) (slice-cons i n l 0 h k) ∙ seek_here x (get_or l i 0) (slice (suc i) n l) e

pub unsought : (x : ℕ) (l : List ℕ) (n i : ℕ) → i < n → n ≤ length l → (get_or l i 0 ≡ x → ⊥) → seek x (slice i n l) ≡ suc (seek x (slice (i + 1) n l))
unsought x l n i h k e = ap (seek x) (slice-cons i n l 0 h k) ∙ seek_past x (get_or l i 0) (slice (suc i) n l) e ∙ ap (λ (j : ℕ). suc (seek x (slice j n l))) (sym (add-one i))

pub seek_nil : (x : ℕ) (l : List ℕ) (n : ℕ) → seek x (slice n n l) ≡ 0
unfolding seek
seek_nil x l n = ap (seek x) (slice_empty n l)

-- ---- a list that grows

pub seek_le : (x : ℕ) (l : List ℕ) → seek x l ≤ length l
unfolding seek
seek_le x [] = omega arith
seek_le x (y ∷ l) = pick (seek_le x l) (eqb y x)
  where
    pick : seek x l ≤ length l → (b : Bool) → here b (seek x l) ≤ suc (length l)
    pick h true = omega arith
    pick h false = omega arith

-- what is found stays where it is
pub seek_more : (x : ℕ) (l m : List ℕ) → seek x l < length l → seek x (l ++ m) ≡ seek x l
unfolding seek
seek_more x [] m h = absurd (omega arith)
seek_more x (y ∷ l) m h = pick (λ g. seek_more x l m g) (eqb y x) h
  where
    pick : (seek x l < length l → seek x (l ++ m) ≡ seek x l) → (b : Bool) → here b (seek x l) < suc (length l) → here b (seek x (l ++ m)) ≡ here b (seek x l)
    pick ih true h = refl
    pick ih false h = ap suc (ih (omega arith))

-- what is new is found at the end
pub seek_new : (x : ℕ) (l : List ℕ) → length l ≤ seek x l → seek x (l ++ (x ∷ [])) ≡ length l
unfolding seek
seek_new x [] h = seek_here x x [] refl
seek_new x (y ∷ l) h = pick (λ g. seek_new x l g) (eqb y x) h
  where
    pick : (length l ≤ seek x l → seek x (l ++ (x ∷ [])) ≡ length l) → (b : Bool) → suc (length l) ≤ here b (seek x l) → here b (seek x (l ++ (x ∷ []))) ≡ suc (length l)
    pick ih true h = absurd (omega arith)
    pick ih false h = ap suc (ih (omega arith))
