use Rattle.distance_values.proofs.Visiting.{going_on, going_settles, going_ends}
use Rattle.distance_values.proofs.visits.rounds.Goals as goal

pub returns-then-not-left : goal.returns-then-not-left
returns-then-not-left c = going_settles c.loop.invariant (c.if-not-left.true)

pub loop-preserved : goal.loop-preserved
loop-preserved c = going_on c.loop.invariant c.loop-test.true (c.if-not-left.false) c.stay_all.auto.spent c.stay_all.auto.next c.stay_all.ensures c.advance-left.ensures

pub returns : goal.returns
returns c = going_ends c.loop.invariant c.loop-test.false
