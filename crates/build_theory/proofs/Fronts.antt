-- The front of a list, as far as the list goes.
use mathlib.Core.Path.{◌≡◌, sym, ap, ◌∙◌}
use mathlib.Core.Logic.{◌⊎◌, inl, inr}
use Prim.Native.Nat.{ℕ, min, ◌≤◌, ◌<◌}
use mathlib.Core.List.{List}
use native.Mathlib.Omega.{arith}
use lib.ListN.{length, take}
use lib.Seq.{take_all}
use Rattle.numbers.proofs.Bools.{lt_or_ge}

pub take_least : {A : Type 0} (n : ℕ) (l : List A) → take n l ≡ take (min n (length l)) l
take_least n l = pick (lt_or_ge n (length l))
  where
    pick : (n < length l) ⊎ (length l ≤ n) → take n l ≡ take (min n (length l)) l
    pick (inl h) = ap (λ k. take k l) (let e : n ≡ min n (length l) = omega arith in e)
    pick (inr h) = take_all n l h ∙ sym (take_all (min n (length l)) l (omega arith))
