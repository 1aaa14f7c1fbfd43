use mathlib.Core.Path.{ap}
use Rattle.std.proofs.Common.{rules}
use Rattle.distance_words.proofs.Valuing.{Valued}
use Rattle.distance_rounds.proofs.Iterates.{iterates_end, iterates_stop, iterates_next}
use Rattle.distance_rounds.proofs.rounds.iterate_first.Goals as goal

pub returns-then-ended-clause-iterated : goal.returns-then-ended-clause-iterated
returns-then-ended-clause-iterated c = iterates_stop c.loop-rounds.invariant.1 c.loop-rounds-test.true (ap (λ (w : Valued). w.value) c.evaluate_first.ensures) c.improve_first-step.ensures.bettered c.ended.ensures c.if-ended.true

pub loop-rounds-preserved : goal.loop-rounds-preserved
loop-rounds-preserved c =
    let u = iterates_next c.loop-rounds.invariant.1 c.loop-rounds-test.true (ap (λ (w : Valued). w.value) c.evaluate_first.ensures) c.improve_first-step.ensures.bettered c.ended.ensures c.if-ended.false c.evaluate_first.auto.value in
    (search rules, u)

pub returns-clause-iterated : goal.returns-clause-iterated
returns-clause-iterated c = iterates_end c.loop-rounds.invariant.1 c.loop-rounds-test.false
