-- The costs of pairs whose states stand in two lists.
use Prim.Native.Nat.{ℕ}
use mathlib.Core.Bool.{Bool, true, false, ◌&&◌}
use mathlib.Core.List.{List, map}
use lib.Dec.{leb}
use lib.ListN.{length, get_or}
use lib.Ieee.{Float, nan, binary64, sub, mul}
use Rattle.numbers.specs.Real.{one}
use Rattle.numbers.specs.Choice.{apart}
use Rattle.numbers.specs.Lists.{span, over}

-- (1 - γ) × how far apart the observations of pair k are
abbrev pub cost_at : List ℕ → List ℕ → List Float → List Float → Float → ℕ → Float
cost_at lefts rights u w γ k = mul binary64 (sub binary64 one γ) (apart (get_or u (get_or lefts k 0) nan) (get_or w (get_or rights k 0) nan))

-- of the first n pairs
abbrev pub costs : List ℕ → List ℕ → List Float → List Float → Float → ℕ → List Float
costs lefts rights u w γ n = map (cost_at lefts rights u w γ) (span 0 n)

-- was it done, and the list then
pub record Priced : Type 0 where
  pub done : Bool
  pub cost : List Float

abbrev pub priced : Bool → List Float → Priced
priced b l = record { done = b; cost = l }

abbrev pub counted : ℕ → ℕ → ℕ → ℕ → Bool
counted n lefts rights cost = leb n lefts && (leb n rights && leb n cost)

abbrev pub priced_if : Bool → List Float → List Float → Priced
priced_if true new old = priced true (over new old)
priced_if false new old = priced false old

abbrev pub pricing : ℕ → List ℕ → List ℕ → List Float → List Float → Float → List Float → Priced
pricing n lefts rights u w γ cost = priced_if (counted n (length lefts) (length rights) (length cost)) (costs lefts rights u w γ n) cost
