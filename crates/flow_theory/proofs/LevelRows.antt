-- Words of private contracts: what the loops of `levels` need and leave behind, and node lists that stand in rows.
use mathlib.Core.Path.{◌≡◌}
use Prim.Native.Nat.{ℕ, suc, ◌+◌, ◌≤◌, ◌<◌}
use mathlib.Core.List.{List}
use lib.ListN.{length, get_or, replicate}
use lib.Seq.{slice}
use lib.Ieee.{Float}
use Rattle.flow_theory.specs.Network.{Net, nodes, links, out}
use Rattle.flow_theory.specs.Levels.{Search, scan, unset, level_of}
use Rattle.flow_theory.proofs.Levels.{count}
use Rattle.flow_theory.proofs.Links.{WellFormed}

-- the links of the row leave u; each is there, and its head has a level or is still to get one
pub record Scannable (H row : List ℕ) (c : List Float) (u : ℕ) (L q : List ℕ) (t : ℕ) : Type 0 where
  pub links_in : (j : ℕ) → j < length row → (get_or row j 0 < length H) × (get_or row j 0 < length c)
  pub heads_in : (e : ℕ) → e < length H → get_or H e 0 < length L
  pub here : u < length L
  pub low : suc (level_of L u) < unset
  pub room : t + count L ≤ length q

pub record Scanned (H row : List ℕ) (c : List Float) (u : ℕ) (L q L' q' : List ℕ) (t t' : ℕ) : Type 0 where
  pub level_length : length L' ≡ length L
  pub queue_length : length q' ≡ length q
  pub longer : t ≤ t'
  pub room : t' + count L' ≤ length q'
  pub same : (N : Net) (h : ℕ) → N.heads ≡ H → h ≤ t
      → ◌≡◌ {A = Search} (record { level = L'; queue = slice h t' q' }) (scan N c u row (record { level = L; queue = slice h t q }))

-- the node lists as one list with the place where each begins
pub record InRows (N : Net) (H list starts : List ℕ) (source : ℕ) : Type 0 where
  pub heads : N.heads ≡ H
  pub from : N.source ≡ source
  pub places : nodes N ≤ 66
  pub rows : (u : ℕ) → u < nodes N → out N u ≡ slice (get_or starts u 0) (get_or starts (suc u) 0) list
  pub ordered : (u : ℕ) → u < nodes N → (get_or starts u 0 ≤ get_or starts (suc u) 0) × (get_or starts (suc u) 0 ≤ length list)

pub record Searchable (H list starts : List ℕ) (c : List Float) (source : ℕ) (L q : List ℕ) : Type 0 where
  pub net : Net
  pub good : WellFormed net
  pub laid : InRows net H list starts source
  pub size : length c ≡ links net
  pub fresh : L ≡ replicate (nodes net) unset
  pub room : nodes net ≤ length q
