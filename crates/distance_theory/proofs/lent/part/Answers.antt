use Rattle.distance_theory.proofs.Held.{part_there}
use Rattle.distance_theory.proofs.lent.part.Goals as goal

pub returns : goal.returns
returns g c = part_there c.args.from c.args.to c.args.list.now c.min-to.ensures c.min.ensures
