-- The rows of two models in the work space: flow_links' words of its lists.
use Rattle.std.specs.Prelude.{ℕ, Bool}
use Rattle.epsdelta_theory.specs.Jumps.{Jumps}
use Rattle.epsdelta_jumps.specs.declared.store.RowStore.{RowStore}
use Rattle.flow_links.proofs.RowsRead as read

-- the jumps of state s are there, and a flow test takes its row
abbrev pub stands_in : RowStore → ℕ → Bool
stands_in S s = read.row_stands S.starts.now S.targets.now S.probs.now s

-- the rows of n states
abbrev pub rows_in : RowStore → ℕ → Jumps
rows_in S n = read.rows_in n S.exits.now S.starts.now S.targets.now S.probs.now
