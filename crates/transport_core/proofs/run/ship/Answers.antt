use Rattle.transport_theory.proofs.Turns.{ship_ready, ship_most, ship_over, ship_broken, ship_on}
use Rattle.transport_core.proofs.run.ship.Goals as goal

pub returns-then-not-remaining-much : goal.returns-then-not-remaining-much
returns-then-not-remaining-much c = ship_over c.loop.invariant c.loop-test.true c.if-not-remaining-much.true

pub one_round-requires : goal.one_round-requires
one_round-requires c = ship_ready c.requires c.loop.invariant

pub returns-in_default : goal.returns-in_default
returns-in_default c = ship_broken c.loop.invariant c.loop-test.true c.if-not-remaining-much.false c.in_default.ensures

pub loop-preserved : goal.loop-preserved
loop-preserved c = ship_on c.loop.invariant c.loop-test.true c.if-not-remaining-much.false c.one_round.auto.caps c.in-Some.ensures

pub returns : goal.returns
returns c = ship_most c.loop.invariant c.loop-test.false
