-- Words of private contracts: what the loops of the search need and leave behind, over rows.
use mathlib.Core.Path.{◌≡◌}
use Prim.Native.Nat.{ℕ, ◌<◌}
use mathlib.Core.Bool.{Bool, false}
use mathlib.Core.List.{List}
use lib.ListN.{length, get_or}
use lib.Ieee.{Float}
use Rattle.flow_theory.specs.Network.{nodes}
use Rattle.flow_theory.proofs.Links.{WellFormed}
use Rattle.flow_theory.proofs.LevelRows.{InRows}
use Rattle.transport_theory.specs.Links.{Roads}
use Rattle.transport_theory.specs.Shortest.{Tree, relax_all, whole_pass, search}

abbrev pub tree : List Float → List ℕ → Bool → Tree
tree d w b = record { dist = d; via = w; changed = b }

-- these links leave u; each is there, with capacity and cost, and its head has a distance
pub record Relaxable (H out : List ℕ) (c p : List Float) (u : ℕ) (d : List Float) (w : List ℕ) : Type 0 where
  pub links_in : (j : ℕ) → j < length out → get_or out j 0 < length H
  pub heads_in : (e : ℕ) → e < length H → get_or H e 0 < length d
  pub caps_size : length c ≡ length H
  pub costs_size : length p ≡ length H
  pub here : u < length d
  pub via_size : length w ≡ length d

-- the definition's tree after these links, in any network of these heads and costs
abbrev pub Relaxed : List ℕ → List ℕ → List Float → List Float → ℕ → List Float → List ℕ → Bool → List Float → List ℕ → Bool → Type 0
Relaxed H out c p u d w ch d' w' ch' = (R : Roads) → R.net.heads ≡ H → R.cost ≡ p → tree d' w' ch' ≡ relax_all R c u out (tree d w ch)

-- a network with a cost per link, in rows
pub record InRoads (R : Roads) (H list starts : List ℕ) (p : List Float) : Type 0 where
  pub good : WellFormed R.net
  pub laid : InRows R.net H list starts R.net.source
  pub cost : R.cost ≡ p

-- a search over such rows may begin
pub record Passable (H list starts : List ℕ) (c p d : List Float) (w : List ℕ) : Type 0 where
  pub roads : Roads
  pub laid : InRoads roads H list starts p
  pub caps_size : length c ≡ length H
  pub costs_size : length p ≡ length H
  pub dist_size : length d ≡ nodes roads.net
  pub via_size : length w ≡ length d

-- the definition's tree after a pass, and after the search
abbrev pub Passed : List ℕ → List ℕ → List ℕ → List Float → List Float → List Float → List ℕ → List Float → List ℕ → Bool → Type 0
Passed H list starts c p d w d' w' ch' = (R : Roads) → InRoads R H list starts p → length d ≡ nodes R.net → tree d' w' ch' ≡ whole_pass R c (tree d w false)

pub record Found (t : Tree) (d : List Float) (w : List ℕ) : Type 0 where
  pub dist_is : d ≡ t.dist
  pub via_is : w ≡ t.via

abbrev pub Searched : List ℕ → List ℕ → List ℕ → List Float → List Float → List Float → List ℕ → List Float → List ℕ → Type 0
Searched H list starts c p d w d' w' = (R : Roads) → InRoads R H list starts p → length d ≡ nodes R.net → Found (search R c (nodes R.net) (tree d w false)) d' w'
