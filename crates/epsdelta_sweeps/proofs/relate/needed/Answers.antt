-- Two subtractions, each rounded once, as the definition has them.
use mathlib.Core.Path.{refl}
use Rattle.epsdelta_theory.specs.FlowTest.{needed}
use Rattle.epsdelta_sweeps.proofs.relate.needed.Goals as goal

pub returns : goal.returns
unfolding needed
returns c = refl
