-- Parts of lists, and of lists that have one entry throughout, as a fresh array has.
use mathlib.Core.Path.{◌≡◌, refl, sym, ap, ◌∙◌}
use Prim.Native.Nat.{ℕ, zero, suc, ◌+◌, ◌≤◌}
use mathlib.Core.List.{List, [], ◌∷◌}
use native.Mathlib.Nat.{le_of_suc-le-suc, not-suc-le-zero, suc-add, zero-add}
use lib.ListN.{length, take, drop, replicate, length-replicate}
use lib.Seq.{take-nil}

module _ {A : Type 0} where
  -- the part from i, m entries long, either way
  pub drop_take : (i m : ℕ) (l : List A) → drop i (take (i + m) l) ≡ take m (drop i l)
  drop_take zero m l = ap (λ (n : ℕ). take n l) (zero-add m)
  drop_take (suc i) m [] = ap (λ (n : ℕ). drop (suc i) (take n [])) (suc-add i m) ∙ sym (take-nil m)
  drop_take (suc i) m (x ∷ l) = ap (λ (n : ℕ). drop (suc i) (take n (x ∷ l))) (suc-add i m) ∙ drop_take i m l

  pub take_replicate : (n m : ℕ) (x : A) → n ≤ m → take n (replicate m x) ≡ replicate n x
  take_replicate zero m x h = refl
  take_replicate (suc n) zero x h = absurd (not-suc-le-zero h)
  take_replicate (suc n) (suc m) x h = ap (λ (l : List A). x ∷ l) (take_replicate n m x (le_of_suc-le-suc h))

  pub take_replicate_length : (n m : ℕ) (x : A) → n ≤ m → length (take n (replicate m x)) ≡ n
  take_replicate_length n m x h = ap length (take_replicate n m x h) ∙ length-replicate n x
