-- By the test.
use Rattle.numbers.proofs.Choices.{chosen}
use mathlib.Core.Bool.{false}
use Rattle.chains.proofs.chain.or_one.Goals as goal

pub returns-else-q : goal.returns-else-q
returns-else-q c = chosen _ false _ _ c.if-q.false
