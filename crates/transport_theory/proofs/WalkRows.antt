-- Words of private contracts: the path of a round over rows, walked back from the sink.
use mathlib.Core.Path.{◌≡◌}
use mathlib.Core.Logic.{◌≢◌, ◌⊎◌}
use Prim.Native.Nat.{ℕ, suc, ◌≤◌, ◌<◌}
use mathlib.Core.Bool.{true, false}
use mathlib.Core.List.{List}
use lib.ListN.{length, get_or, take}
use lib.Dec.{eqb}
use Rattle.std.specs.Prelude.{Option, Some, None}
use Rattle.flow_theory.specs.Network.{Net, nodes, links, rev, tail}
use Rattle.transport_theory.specs.Shortest.{route, ends}

-- v is the source, or a link leads to it
abbrev pub ReachedBy : Net → List ℕ → ℕ → Type 0
ReachedBy N w v = (v ≡ N.source) ⊎ (get_or w v 0 < links N)

-- one step back, from a node that is reached to another
pub record Back (N : Net) (w : List ℕ) (v : ℕ) : Type 0 where
  pub link_in : get_or w v 0 < links N
  pub rev_in : rev (get_or w v 0) < links N
  pub node_in : tail N (get_or w v 0) < nodes N
  pub reached : ReachedBy N w (tail N (get_or w v 0))

-- the path may be walked back: room for one link more than there are nodes
pub record Walkable (N : Net) (w p : List ℕ) : Type 0 where
  pub back : (v : ℕ) → v < nodes N → ReachedBy N w v → v ≢ N.source → Back N w v
  pub sink_in : N.sink < nodes N
  pub reached : ReachedBy N w N.sink
  pub size : length w ≡ nodes N
  pub room : suc (nodes N) ≤ length p
  pub few : nodes N ≤ 66

-- n links are on the path, which comes from the source
pub record Home (N : Net) (w p : List ℕ) (n : ℕ) : Type 0 where
  pub within : n ≤ length p
  pub path_is : take n p ≡ route N w (suc (nodes N)) N.sink
  pub home_is : eqb (ends N w (suc (nodes N)) N.sink) N.source ≡ true

-- how many links are on the path, if it comes from the source
abbrev pub Walked : Net → List ℕ → List ℕ → Option ℕ → Type 0
Walked N w p (Some n) = Home N w p n
Walked N w p None = eqb (ends N w (suc (nodes N)) N.sink) N.source ≡ false
