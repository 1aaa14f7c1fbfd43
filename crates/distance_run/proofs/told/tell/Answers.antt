-- By the mass that is left.
use Rattle.distance_run.proofs.Founding.{left_over, tells}
use Rattle.distance_run.proofs.told.tell.Goals as goal

pub returns-then-account : goal.returns-then-account
returns-then-account c =
    let a = c.args in
    left_over a.n a.value a.gamma a.made.residual a.made.rounds a.account.now c.if-account.true

pub returns : goal.returns
returns c =
    let a = c.args in
    tells a.n a.value a.gamma a.made.residual a.made.rounds a.account.now c.if-account.false
