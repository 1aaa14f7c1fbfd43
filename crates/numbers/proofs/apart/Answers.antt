-- `numbers::apart` meets its contract: each arm returns what the test chooses.
use mathlib.Core.Bool.{true, false}
use Rattle.numbers.proofs.Choices.{apart_is}
use Rattle.numbers.proofs.apart.Goals as goal

pub returns-then-d : goal.returns-then-d
returns-then-d c = apart_is c.args.x c.args.y true c.if-d.true

pub returns-else-d : goal.returns-else-d
returns-else-d c = apart_is c.args.x c.args.y false c.if-d.false
