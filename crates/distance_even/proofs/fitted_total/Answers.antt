use Rattle.distance_words.proofs.Even.{fitted_by}
use Rattle.distance_even.proofs.Evens.{fit_start, fit_next, fit_end}
use Rattle.distance_even.proofs.fitted_total.Goals as goal

pub loop-q-init : goal.loop-q-init
loop-q-init c = fit_start (fitted_by c.args.left c.args.right) c.args.qs.now

pub loop-q-preserved : goal.loop-q-preserved
loop-q-preserved c = fit_next (fitted_by c.args.left c.args.right) c.args.qs.now c.loop-q.total c.loop-q.q-index c.loop-q-test.true c.loop-q.invariant

pub returns : goal.returns
returns c = fit_end (fitted_by c.args.left c.args.right) c.args.qs.now c.loop-q.total c.loop-q.q-index c.loop-q-test.false c.loop-q.invariant
