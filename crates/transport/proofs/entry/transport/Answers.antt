-- `entry::transport` meets its contract: a refusal keeps the columns, and without one the plan is the definition's (Refusing).
use mathlib.Core.Path.{sym}
use Rattle.transport.proofs.Refusing.{roomy}
use Rattle.transport.proofs.entry.transport.Goals as goal

pub planned-requires : goal.planned-requires
planned-requires c = roomy c.args.of.now.left.now c.args.of.now.right.now c.args.of.now.costs.now c.args.plan.now.rows.now c.args.plan.now.columns.now c.args.plan.now.masses.now _ (sym c.in_ok-refusal.ensures)
