-- By the tolerance.
use Rattle.distance_run.proofs.Solving.{aims}
use Rattle.distance_run.proofs.solve.aim.Goals as goal

pub returns : goal.returns
returns c = aims c.args.gamma c.args.options c.tolerance.ensures
