-- `entry::transport_sized` meets its contract: as `transport`, with the sizes as the only checks.
use mathlib.Core.Path.{sym}
use Rattle.transport.proofs.Refusing.{sized_roomy}
use Rattle.transport.proofs.entry.transport_sized.Goals as goal

pub carry-requires : goal.carry-requires
carry-requires c = sized_roomy c.args.of.now.left.now c.args.of.now.right.now c.args.of.now.costs.now c.args.plan.now.rows.now c.args.plan.now.columns.now c.args.plan.now.masses.now (sym c.in_ok-size_refusal.ensures)
