-- `tolerance` is what `larger` gives.
use Rattle.distance_theory.proofs.tolerance.Goals as goal

pub returns : goal.returns
returns c = c.larger.ensures
