-- The invariant: the values of the first k cells are laid. A turn lays one more.
use mathlib.Core.Path.{◌≡◌}
use Prim.Native.Nat.{◌≤◌}
use lib.ListN.{length}
use Rattle.numbers.proofs.Over.{over}
use Rattle.distance_theory.proofs.RowsLent.{values_rows}
use Rattle.distance_couplings.proofs.best.lay_values.Given as goal

abbrev pub invariant-loop-k : goal.invariant-loop-k
invariant-loop-k l = (l.k ≤ length l.initial.costs) × (length l.costs ≡ length l.initial.costs) × (l.costs ≡ over (values_rows l.of.rows l.of.values.now) l.k l.initial.costs)
