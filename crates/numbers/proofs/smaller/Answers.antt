-- `numbers::smaller` meets its contract: each arm returns what the test chooses.
use mathlib.Core.Bool.{true, false}
use Rattle.numbers.proofs.Choices.{smaller_is}
use Rattle.numbers.proofs.smaller.Goals as goal

pub returns-then-y-x : goal.returns-then-y-x
returns-then-y-x c = smaller_is c.args.x c.args.y true c.if-y-x.true

pub returns-else-y-x : goal.returns-else-y-x
returns-else-y-x c = smaller_is c.args.x c.args.y false c.if-y-x.false
