-- Words of the private contracts of the reader: room in the lent lists, and what stands in them.
use mathlib.Core.Path.{◌≡◌}
use mathlib.Core.Bool.{Bool, ◌&&◌}
use mathlib.Core.List.{List, map}
use Prim.Native.Nat.{ℕ, ◌+◌, ◌≤◌}
use lib.Dec.{leb}
use lib.Ieee.{Float}
use lib.ListN.{length}
use lib.Seq.{sets}
use Rattle.card_layout.specs.Card.{Transition, states, count, side_fault}
use Rattle.card_layout.specs.Lists.{Columns, source_of, label_of, target_of, weight_of}

-- the lengths of the lists are enough for n states and m transitions
abbrev pub enough : ℕ → ℕ → ℕ → ℕ → ℕ → ℕ → ℕ → Bool
enough n m classes sources labels targets weights =
    leb n classes && (leb m sources && (leb m labels && (leb m targets && leb m weights)))

-- the four columns have n entries from `from` on
pub record TransitionsRoom (n from : ℕ) (sources labels targets : List ℕ) (weights : List Float) : Type 0 where
  pub in_sources : from + n ≤ length sources
  pub in_labels : from + n ≤ length labels
  pub in_targets : from + n ≤ length targets
  pub in_weights : from + n ≤ length weights

-- the four columns afterwards: the transitions from `from` on, the other entries as they were
pub record TransitionsStored (ms : List Transition) (from : ℕ) (a b d : List ℕ) (w : List Float) (sources labels targets : List ℕ) (weights : List Float) : Type 0 where
  pub sources_are : sources ≡ sets a from (map source_of ms)
  pub labels_are : labels ≡ sets b from (map label_of ms)
  pub targets_are : targets ≡ sets d from (map target_of ms)
  pub weights_are : weights ≡ sets w from (map weight_of ms)

-- a model without a fault, and room for it from n and m on
pub record SideRoom (bs : List ℕ) (n m : ℕ) (k : Columns) : Type 0 where
  pub no_fault : side_fault bs 0 ≡ 0
  pub in_classes : n + states bs ≤ length k.classes
  pub in_transitions : TransitionsRoom (count bs) m k.sources k.labels k.targets k.weights
