-- By the check of the counts.
use mathlib.Core.Bool.{not}
use mathlib.Core.Path.{ap}
use lib.ListN.{length}
use Rattle.distance_rounds.proofs.Steps.{counts_known, uncounted, counting}
use Rattle.distance_rounds.proofs.improve.improve_first.Goals as goal

pub returns-then-not-counted-clause-bettered : goal.returns-then-not-counted-clause-bettered
returns-then-not-counted-clause-bettered c = let a = c.args in uncounted a.task.now a.starts.now a.store.now a.n (length a.values.now) c.counted.result c.counted.ensures (ap not c.if-not-counted.true) _

pub improve_each-requires : goal.improve_each-requires
improve_each-requires c = let a = c.args in counts_known a.task.now a.starts.now a.store.now a.n (length a.values.now) c.counted.result c.counted.ensures (ap not c.if-not-counted.false)

pub returns-clause-bettered : goal.returns-clause-bettered
returns-clause-bettered c = let a = c.args in counting a.task.now a.starts.now a.store.now a.n (length a.values.now) c.counted.result c.counted.ensures (ap not c.if-not-counted.false) _ _ c.improve_each.ensures.bettered
