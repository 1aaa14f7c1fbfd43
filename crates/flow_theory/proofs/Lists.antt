-- Laws on lists beside those of numbers/proofs: a row that is filled place by place (Over), and a list mapped.
use mathlib.Core.Path.{◌≡◌, refl, ap, ◌∙◌}
use Prim.Native.Nat.{ℕ, zero, suc, ◌≤◌, ◌<◌}
use mathlib.Core.List.{List, [], ◌∷◌, ◌++◌, map, append-nil}
use native.Mathlib.Nat.{le_of_suc-le-suc, not-suc-le-zero}
use lib.ListN.{length, get_or, take, drop, replicate}
use Rattle.numbers.proofs.Over.{over}

module _ {A : Type 0} where
  -- what is not yet written over is as it was
  pub over_read : (s d : List A) (u : ℕ) (z : A) → u < length s → u < length d → get_or (over s u d) u z ≡ get_or d u z
  over_read [] d u z h k = absurd (not-suc-le-zero h)
  over_read (x ∷ s) [] u z h k = absurd (not-suc-le-zero k)
  over_read (x ∷ s) (y ∷ d) zero z h k = refl
  over_read (x ∷ s) (y ∷ d) (suc u) z h k = over_read s d u z (le_of_suc-le-suc h) (le_of_suc-le-suc k)

  pub over_end : (s d : List A) (n : ℕ) → length d ≤ n → over s n d ≡ take n s
  over_end s d n h = ap (λ (l : List A). take n s ++ l) (drop_all n d h) ∙ append-nil (take n s)
    where
      drop_all : (m : ℕ) (l : List A) → length l ≤ m → drop m l ≡ []
      drop_all zero [] k = refl
      drop_all zero (x ∷ l) k = absurd (not-suc-le-zero k)
      drop_all (suc m) [] k = refl
      drop_all (suc m) (x ∷ l) k = drop_all m l (le_of_suc-le-suc k)

pub at_map : {A B : Type 0} (f : A → B) (z : A) (l : List A) (i : ℕ) → get_or (map f l) i (f z) ≡ f (get_or l i z)
at_map f z [] i = refl
at_map f z (x ∷ l) zero = refl
at_map f z (x ∷ l) (suc i) = at_map f z l i

-- an array of 66 places, made afresh
abbrev pub fresh : ℕ → List ℕ
fresh x = replicate 66 x
