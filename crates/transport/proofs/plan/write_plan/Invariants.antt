-- `plan::write_plan` meets its contract. The loop's invariant: the cells still to come are the rest of the plan (Plans.Planning).
use Prim.Native.Nat.{◌+◌, ◌*◌}
use lib.ListN.{length}
use Rattle.transport.specs.Lent.{same_columns}
use Rattle.transport_theory.proofs.Plans.{Planning}
use Rattle.transport.proofs.plan.write_plan.Given as goal

abbrev pub invariant-loop-k : goal.invariant-loop-k
invariant-loop-k l = Planning l.caps (2 * (length l.of.left.now + length l.of.right.now)) (length l.of.right.now) (length l.of.left.now * length l.of.right.now) l.of.costs.now l.initial.plan.rows.now l.initial.plan.columns.now l.initial.plan.masses.now l.total l.cells l.k l.plan.rows.now l.plan.columns.now l.plan.masses.now
    × same_columns l.initial.plan l.plan
