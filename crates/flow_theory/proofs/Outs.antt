-- A node's list is as long as its part of the row.
use mathlib.Core.Path.{◌≡◌, ap, ◌∙◌}
use Prim.Native.Nat.{ℕ, suc, ◌-◌, ◌<◌}
use mathlib.Core.List.{List}
use lib.ListN.{length, get_or}
use lib.Seq.{length-slice}
use Rattle.flow_theory.specs.Network.{Net, nodes, out, node_lists}
use Rattle.flow_theory.proofs.Theorem.{node_lists_length}
use Rattle.flow_theory.proofs.LevelRows.{InRows}

-- a network made of rows has as many nodes as were said
pub network_nodes : (H : List ℕ) (n : ℕ) → length (node_lists H n (length H)) ≡ n
network_nodes H n = node_lists_length H n (length H)

module _ {N : Net} {H list starts : List ℕ} {source : ℕ} (D : InRows N H list starts source) (u : ℕ) where
  -- the list of a node is as long as its part of the row
  pub out_length : u < nodes N → length (out N u) ≡ get_or starts (suc u) 0 - get_or starts u 0
  out_length h = ap length (D.rows u h) ∙ length-slice (get_or starts u 0) (get_or starts (suc u) 0) list (D.ordered u h).1
