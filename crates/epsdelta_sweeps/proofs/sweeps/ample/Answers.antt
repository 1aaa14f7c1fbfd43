-- What is plenty between the rows of a test is plenty, and says that they are short (Turns).
use Rattle.std.proofs.Common.{rules, tests, ◌≡◌, true}
use Rattle.numbers.specs.Refuse.{numbered}
use Rattle.flow_direct.specs.Reaches.{at_least}
use Rattle.epsdelta_sweeps.proofs.Turns.{some_true}
use Rattle.epsdelta_sweeps.proofs.sweeps.ample.Goals as goal

pub returns : goal.returns
returns c = λ e.
    let (x, i, f) = some_true c.plenty_between.result c.is_some_and.ensures e in
    let (j, g, h) = rw (i, c.test-test.ensures.0, c.test-test.ensures.2) at c.plenty_between.ensures in
    let y : at_least x (numbered c.args.answer) ≡ true = search (rules, tests) in
    (x, j, y, g, h)
