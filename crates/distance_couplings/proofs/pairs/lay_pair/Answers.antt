-- By the reading of both rows.
use Rattle.std.proofs.Common.{rules}
use Rattle.distance_theory.proofs.PairRows.{rows_laid, rows_unlaid}
use Rattle.distance_couplings.proofs.pairs.lay_pair.Goals as goal

pub returns-clause-laid : goal.returns-clause-laid
returns-clause-laid c = λ h.
    let e = rows_laid c.args.task.now c.args.k c.in_ok-rows.rows c.in_ok-rows.ensures c.args.places.now c.args.masses.now _ c.lay_independent.ensures.laid in
    search (rules, e)

pub returns-in_err-rows-clause-laid : goal.returns-in_err-rows-clause-laid
returns-in_err-rows-clause-laid c = λ h.
    let e = rows_unlaid c.args.task.now c.args.k (c.in_err-rows.ensures h) c.args.places.now c.args.masses.now in
    search (rules, e)
