-- Words of private contracts: a round, and all rounds, over rows.
use mathlib.Core.Path.{◌≡◌}
use Prim.Native.Nat.{ℕ, suc, ◌≤◌, ◌<◌}
use mathlib.Core.Bool.{false}
use Rattle.std.specs.Prelude.{Option, Some, None}
use Rattle.flow_check.specs.declared.Network.{Network}
use Rattle.flow_check.specs.declared.Ends.{Ends}
use Rattle.flow_check.specs.declared.Course.{Course}
use mathlib.Core.List.{List}
use lib.ListN.{length, replicate}
use lib.Ieee.{Float, inf}
use Rattle.flow_theory.specs.Network.{Net, nodes, links}
use Rattle.flow_theory.specs.Levels.{unset}
use Rattle.flow_theory.specs.Rows.{network}
use Rattle.flow_theory.proofs.Links.{WellFormed}
use Rattle.flow_theory.proofs.LevelRows.{InRows}
use Rattle.transport_theory.specs.Links.{Roads}
use Rattle.transport_theory.specs.Transport.{Shipment, more, done, move, turn}
use Rattle.transport_theory.proofs.WalkRows.{Walkable}

-- the network of n nodes whose links have these heads and costs
abbrev pub row_roads : List ℕ → List Float → ℕ → ℕ → ℕ → Roads
row_roads H p n s t = record { net = network H n s t; cost = p }

-- those of a network that is lent
abbrev pub roads_of : Network → Ends → Roads
roads_of N E = row_roads N.heads.now N.costs.now N.nodes E.source E.sink

abbrev pub roads_on : Course → Roads
roads_on K = roads_of K.net K.ends

abbrev pub shipment : List Float → Float → ℕ → Shipment
shipment c x k = record { cap = c; remaining = x; rounds = k }

-- a network with a cost per link in rows, and capacities
pub record Sailable (R : Roads) (starts list : List ℕ) (c : List Float) : Type 0 where
  pub good : WellFormed R.net
  pub laid : InRows R.net R.net.heads list starts R.net.source
  pub sink_in : R.net.sink < nodes R.net
  pub caps_size : length c ≡ links R.net
  pub costs_size : length R.cost ≡ links R.net
  pub small : links R.net ≤ 2176

-- that of a run
abbrev pub CourseSailable : Course → List Float → Type 0
CourseSailable K c = Sailable (roads_on K) K.net.starts.now K.net.list.now c

-- a round may begin: no node is reached, and no link leads anywhere
pub record RoundReady (R : Roads) (starts list : List ℕ) (c d : List Float) (w : List ℕ) : Type 0 where
  pub base : Sailable R starts list c
  pub dist_is : d ≡ replicate (nodes R.net) (inf false)
  pub via_is : w ≡ replicate (nodes R.net) unset

-- the sink is reached
pub record Movable (N : Net) (w : List ℕ) (c : List Float) : Type 0 where
  pub walkable : (p : List ℕ) → suc (nodes N) ≤ length p → Walkable N w p
  pub few : nodes N ≤ 66

-- a push along the path from capacities c with x remaining leaves capacities d, and what remains then; or there is none
abbrev pub Moved : Net → List ℕ → List Float → Float → Option Float → List Float → Type 0
Moved N w c x (Some y) d = (k : ℕ) → move N false w (shipment c x k) ≡ more (shipment d y (suc k))
Moved N w c x None d = (k : ℕ) → move N false w (shipment c x k) ≡ done (shipment d x (suc k))

-- a round from capacities c with x remaining leaves capacities d, and what remains if it goes on
abbrev pub Turned : Roads → List Float → Float → Option Float → List Float → Type 0
Turned R c x (Some y) d = (k : ℕ) → turn R (shipment c x k) ≡ more (shipment d y (suc k))
Turned R c x None d = (k : ℕ) → turn R (shipment c x k) ≡ done (shipment d x (suc k))

-- the capacities left when the rounds end, and what remains
pub record Shipped (s : Shipment) (x : Float) (c : List Float) : Type 0 where
  pub remaining_is : x ≡ s.remaining
  pub cap_is : c ≡ s.cap
