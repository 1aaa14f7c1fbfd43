-- The values that are cut off, with those past them.
use lib.ListN.{length}
use Rattle.distance_theory.specs.Rounds.{many}
use Rattle.distance_rounds.proofs.Iterates.{values_short, values_cut}
use Rattle.distance_rounds.proofs.rounds.evaluate_first.Goals as goal

pub returns-then-n-value : goal.returns-then-n-value
returns-then-n-value c =
    let a = c.args in
    let S = a.store.now in
    values_short many a.starts.now S.lengths.now S.places.now S.masses.now a.task.now.cost.now a.task.now.gamma a.tol a.value.now a.n c.if-n-value.true

pub returns : goal.returns
returns c =
    let a = c.args in
    let S = a.store.now in
    values_cut many a.starts.now S.lengths.now S.places.now S.masses.now a.task.now.cost.now a.task.now.gamma a.tol a.value.now a.n c.if-n-value.false c.evaluate.ensures
