-- By the number of entries of each row.
use mathlib.Core.Logic.{inl, inr}
use lib.ListN.{length}
use Rattle.distance_theory.proofs.Index.{look_up}
use Rattle.distance_couplings.proofs.Moves.{with_one, with_several}
use Rattle.distance_couplings.proofs.best.cheapest.Goals as goal
use Rattle.distance_couplings.proofs.best.cheapest.Goals.{then-of-eq1-via-then-of-eq1, then-of-eq1-via-else-of-eq1+then-of-eq1-2}

pub returns-then-of-eq1-clause-bested : goal.returns-then-of-eq1-clause-bested
returns-then-of-eq1-clause-bested c =
    let R = c.args.of.now.rows in
    let S = c.args.shares.now in
    with_one (look_up R.codes.now) R.xs.targets.now R.xs.probs.now R.ys.targets.now R.ys.probs.now (length R.codes.now) c.requires.beside c.args.of.now.values.now S.places.now S.masses.now _
    (elim c.then-of-eq1.branch [ then-of-eq1-via-then-of-eq1 w ↦ inl w.if-of-eq1.true | then-of-eq1-via-else-of-eq1+then-of-eq1-2 w ↦ inr (w.if-of-eq1.false, w.if-of-eq1-2.true) ]) c.best_alone.ensures.bested

pub returns-clause-bested : goal.returns-clause-bested
returns-clause-bested c =
    let R = c.args.of.now.rows in
    let S = c.args.shares.now in
    with_several (look_up R.codes.now) R.xs.targets.now R.xs.probs.now R.ys.targets.now R.ys.probs.now (length R.codes.now) c.requires.beside c.args.of.now.values.now S.places.now S.masses.now _ c.if-of-eq1.false c.if-of-eq1-2.false c.best_moved.ensures.bested
