-- `check::costs_fit` meets its contract: the front of the costs.
use lib.ListN.{length}
use Rattle.transport.proofs.Refusing.{costs_front}
use Rattle.transport.proofs.check.costs_fit.Goals as goal

pub returns : goal.returns
returns c = costs_front (length c.args.of.now.left.now) (length c.args.of.now.right.now) c.args.of.now.costs.now _ c.hold_all.ensures
