-- `Counting`: what the marks say, and how the targets known and those still to come make those of the row.
use mathlib.Core.Path.{◌≡◌}
use Prim.Native.Nat.{◌+◌}
use lib.ListN.{length}
use Rattle.bisim_core.specs.Data.{columns_of}
use Rattle.bisim_core.specs.Model.{begins}
use Rattle.bisim_core.proofs.RowChecks.{Counting}
use Rattle.bisim_core.proofs.check.count_others.Given as goal

abbrev pub invariant-loop-target : goal.invariant-loop-target
invariant-loop-target l =
    let M = columns_of l.model in
    (l.mark ≡ l.s + 1) × Counting l.model.edge_targets.now (begins M l.s) (begins M (l.s + 1)) l.s (length l.initial.marks) l.marks l.count (begins M l.s + l.target-index)
