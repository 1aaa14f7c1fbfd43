-- `numbers::larger` meets its contract: each arm returns what the test chooses.
use mathlib.Core.Bool.{true, false}
use Rattle.numbers.proofs.Choices.{larger_is}
use Rattle.numbers.proofs.larger.Goals as goal

pub returns-then-x-y : goal.returns-then-x-y
returns-then-x-y c = larger_is c.args.x c.args.y true c.if-x-y.true

pub returns-else-x-y : goal.returns-else-x-y
returns-else-x-y c = larger_is c.args.x c.args.y false c.if-x-y.false
