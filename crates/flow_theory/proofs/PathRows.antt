-- Words of private contracts: a path and its push over rows.
use mathlib.Core.Path.{◌≡◌}
use Prim.Native.Nat.{ℕ, ◌≤◌, ◌<◌}
use Rattle.std.specs.Prelude.{Option, Some, None}
use mathlib.Core.List.{List, reverse}
use lib.ListN.{length, get_or, take}
use mathlib.Core.Bool.{true, false}
use mathlib.Core.Logic.{◌≢◌, ◌⊎◌}
use lib.Ieee.{Float}
use Rattle.flow_theory.specs.Network.{Net, nodes, residual}
use Rattle.flow_theory.specs.Augment.{Walked, reached, blocked}
use Rattle.flow_theory.proofs.Links.{WellFormed, Caps}
use Rattle.flow_theory.proofs.Levels.{Levels}
use Rattle.flow_theory.proofs.Paths.{Dead}
use Rattle.flow_theory.proofs.LevelRows.{InRows}

-- the state in which a path is looked for: levels of a phase, and marks that have passed only links that lead nowhere
pub record Walkable (N : Net) (starts list : List ℕ) (c : List Float) (L nx : List ℕ) : Type 0 where
  pub good : WellFormed N
  pub laid : InRows N N.heads list starts N.source
  pub caps : Caps N c
  pub began : List Float
  pub levels : Levels N began L
  pub size : length nx ≡ nodes N
  pub dead : Dead N c L nx

-- a link with capacity left to a node of the level `want`; and one that is not such a link
abbrev pub Leads : List ℕ → List Float → List ℕ → ℕ → ℕ → Type 0
Leads H c L want e = (residual c e ≡ true) × (get_or L (get_or H e 0) 0 ≡ want)

abbrev pub Idle : List ℕ → List Float → List ℕ → ℕ → ℕ → Type 0
Idle H c L want e = (residual c e ≡ false) ⊎ (get_or L (get_or H e 0) 0 ≢ want)

-- the links of the row are there, with their heads' levels
abbrev pub Seekable : List ℕ → List ℕ → List Float → List ℕ → Type 0
Seekable H row c L = (j : ℕ) → j < length row → (get_or row j 0 < length H) × (get_or row j 0 < length c) × (get_or H (get_or row j 0) 0 < length L)

-- r is the place of the first link of the row that leads to the level, or its end
pub record Sought (H row : List ℕ) (c : List Float) (L : List ℕ) (want r : ℕ) : Type 0 where
  pub ends : r ≤ length row
  pub passed : (j : ℕ) → j < r → Idle H c L want (get_or row j 0)
  pub found : r < length row → Leads H c L want (get_or row r 0)

-- what a search of a whole row finds: the place of its first link that leads to the level, if there is one
abbrev pub Found : List ℕ → List ℕ → List Float → List ℕ → ℕ → Option ℕ → Type 0
Found H row c L want (Some k) = (k < length row) × Sought H row c L want k
Found H row c L want None = Sought H row c L want (length row)

-- how the code's walk ended: so many links on the path, if there is one; the definition's path has the last link first
abbrev pub Routed : Option ℕ → List ℕ → List ℕ → Walked → Type 0
Routed None p nx end = blocked nx ≡ end
Routed (Some n) p nx end = (n ≤ length p) × (reached (reverse (take n p)) nx ≡ end)
