-- As many pairs as there are values.
use Rattle.distance_rounds.proofs.rounds.iterate.Goals as goal

pub returns-clause-iterated : goal.returns-clause-iterated
returns-clause-iterated c = c.iterate_first.ensures.iterated
