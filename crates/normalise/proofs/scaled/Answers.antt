-- By the test.
use mathlib.Core.Bool.{true}
use Rattle.numbers.proofs.Choices.{chosen}
use Rattle.normalise.proofs.scaled.Goals as goal

pub returns-then-scale : goal.returns-then-scale
returns-then-scale c = chosen _ true _ _ c.if-scale.true
