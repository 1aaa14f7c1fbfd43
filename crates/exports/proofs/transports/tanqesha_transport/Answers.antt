-- `put_pair` ensures the numbers for the answer, and `transport` the answer and the columns.
use mathlib.Core.Path.{◌≡◌}
use lib.ListN.{length}
use Rattle.std.proofs.Common.{rules}
use Rattle.numbers.specs.Refuse.{numbered}
use Rattle.transport_theory.specs.Refusal.{costs_fit}
use Rattle.transport.specs.Outcome.{ends, transport_on}
use Rattle.exports.proofs.transports.tanqesha_transport.Goals as goal

pub returns : goal.returns
returns c =
    let a = c.args in
    let plan = c.transport-answer.new.plan in
    let e : ends (numbered c.transport-answer.result) plan.rows.now plan.columns.now plan.masses.now ≡ transport_on (costs_fit (length a.a.now) (length a.b.now) a.costs.now) a.a.now a.b.now a.costs.now a.plan_rows.now a.plan_columns.now a.plan_masses.now
    = c.transport-answer.ensures.ends in
    search (rules, e)
