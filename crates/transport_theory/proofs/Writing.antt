-- The links of `transport` written into rows of heads, capacities and costs.
use Prim.Native.Nat.{ℕ, ◌+◌, ◌*◌}
use mathlib.Core.Bool.{Bool, true, false, ◌&&◌}
use mathlib.Core.List.{List}
use lib.Dec.{leb}
use lib.ListN.{length}
use lib.Ieee.{Float}
use Rattle.std.specs.Prelude.{Option, Some, None}
use Rattle.numbers.specs.Lists.{over}
use Rattle.transport_theory.specs.Lent.{few}
use Rattle.transport_theory.specs.Links.{Link, links, heads, caps, prices}

-- a cost for each cell, and so many places in the three rows
abbrev pub room_for : ℕ → ℕ → ℕ → ℕ → ℕ → ℕ → ℕ → Bool
room_for most m n costs heads caps prices = leb (m * n) costs && (leb most heads && (leb most caps && leb most prices))

-- at most 32 masses on a side, a cost for each cell, and room for each link and its reverse in the three rows
abbrev pub has_room : ℕ → ℕ → ℕ → ℕ → ℕ → ℕ → Bool
has_room m n costs heads caps prices = few m n && room_for (2 * (m + n + m * n)) m n costs heads caps prices

-- how many places the links take, if they were written, and the rows then
pub record Written : Type 0 where
  pub places : Option ℕ
  pub heads : List ℕ
  pub caps : List Float
  pub prices : List Float

abbrev pub wrote : Option ℕ → List ℕ → List Float → List Float → Written
wrote o h c p = record { places = o; heads = h; caps = c; prices = p }

abbrev pub write_if : Bool → List Link → List ℕ → List Float → List Float → Written
write_if true ls h c p = wrote (Some (length (heads ls))) (over (heads ls) h) (over (caps ls) c) (over (prices ls) p)
write_if false ls h c p = wrote None h c p

-- the links of masses a and b laid over the rows; where these have no room they stay as they are
abbrev pub write : List Float → List Float → List Float → List ℕ → List Float → List Float → Written
write a b costs h c p = write_if (has_room (length a) (length b) (length costs) (length h) (length c) (length p)) (links a b costs) h c p
