-- `settle::after_step` meets its contract after a push (Reaching).
use Rattle.flow_routes.proofs.Reaching.{judged_enough, judged_pushed}
use Rattle.flow_direct.proofs.settle.after_step.Goals as goal

pub returns-then-need-flow : goal.returns-then-need-flow
returns-then-need-flow c = rw c.in-Pushed.is (judged_enough c.if-need-flow.true)

pub returns-else-need-flow : goal.returns-else-need-flow
returns-else-need-flow c = rw c.in-Pushed.is (judged_pushed c.if-need-flow.false)
