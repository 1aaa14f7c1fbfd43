-- By the reading of both rows.
use Rattle.std.proofs.Common.{rules}
use Rattle.distance_theory.proofs.PairRows.{rows_bested, rows_unbested}
use Rattle.distance_couplings.proofs.choose.best_if_any.Goals as goal

pub returns-clause-bested : goal.returns-clause-bested
returns-clause-bested c = λ h.
    let e = rows_bested c.args.task.now c.args.k c.in_ok-rows.rows c.in_ok-rows.ensures c.args.values.now c.args.shares.now.places.now c.args.shares.now.masses.now _ c.best_coupling.ensures.bested in
    search (rules, e)

pub returns-in_err-rows-clause-bested : goal.returns-in_err-rows-clause-bested
returns-in_err-rows-clause-bested c = λ h.
    let e = rows_unbested c.args.task.now c.args.k (c.in_err-rows.ensures h) c.args.values.now c.args.shares.now.places.now c.args.shares.now.masses.now in
    search (rules, e)
