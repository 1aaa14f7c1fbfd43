-- As many pairs as there are values.
use Rattle.distance_rounds.proofs.improve.improve.Goals as goal

pub returns-clause-bettered : goal.returns-clause-bettered
returns-clause-bettered c = c.improve_first.ensures.bettered
