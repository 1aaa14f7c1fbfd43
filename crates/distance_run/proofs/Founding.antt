-- What is told of a run of pairs.
use mathlib.Core.Path.{◌≡◌, sym, ap}
use Prim.Native.Nat.{ℕ}
use mathlib.Core.Bool.{Bool, true, false}
use lib.Ieee.{Float, binary64, sub, div, lt}
use Rattle.numbers.specs.Real.{one, eps}
use Rattle.std.specs.Prelude.{Ok, Err}
use Rattle.distance_words.proofs.Found.{tell_if, tell_of}
use Rattle.distance_words.specs.declared.told.Accounted.{Accounted}

-- ---- what is told

module _ (n : ℕ) (x γ y : Float) (k : ℕ) (a : Accounted) where
  pub left_over : lt eps a.mass ≡ true → Err 19 ≡ tell_of n x γ y k a
  left_over h = ap (λ (b : Bool). tell_if b n x γ y k a) (sym h)

  -- nothing is left
  pub tells : lt eps a.mass ≡ false
      → Ok (record { distance = record { value = x; error_bound = div binary64 y (sub binary64 one γ); gamma = γ; pairs_explored = n; contributions = a.listed.count; rounds = k }; records = a.listed.records }) ≡ tell_of n x γ y k a
  tells h = ap (λ (b : Bool). tell_if b n x γ y k a) (sym h)
