-- A plan in the columns that are lent, as the definition has it.
use Rattle.std.specs.Prelude.{◌≡◌, List, Float, Result}
use Rattle.numbers.specs.Refuse.{numbered}
use Rattle.numbers.specs.declared.refusal.Refusal.{Refusal}
use Rattle.transport_theory.specs.declared.Masses.{Masses}
use Rattle.transport_theory.proofs.TransportRows as rows
use Rattle.transport.specs.declared.plan.Plan.{Plan}
use Rattle.transport.specs.declared.plan.PlanRows.{PlanRows}
use Rattle.transport.specs.Lent.{right}
use Rattle.transport.specs.Outcome.{Outcome, ends, transport_on, transport_sized}

-- these masses are moved: what it costs, its cells, and the columns, which held P before and hold Q now
abbrev pub Moved : Masses → PlanRows → Plan → PlanRows → Type 0
Moved M P x Q = rows.Transported M.left.now M.right.now M.costs.now P.rows.now P.columns.now P.masses.now x.total x.cells Q.rows.now Q.columns.now Q.masses.now

-- the plan of such capacities
abbrev pub Spelled : Masses → List Float → PlanRows → Plan → PlanRows → Type 0
Spelled M caps P x Q = rows.Spelled M.left.now M.right.now M.costs.now caps P.rows.now P.columns.now P.masses.now x.total x.cells Q.rows.now Q.columns.now Q.masses.now

-- the outcome for these masses and columns, and the same of any masses and costs of sizes that fit
abbrev pub outcome_of : Masses → PlanRows → Outcome
outcome_of M P = transport_on (right M) M.left.now M.right.now M.costs.now P.rows.now P.columns.now P.masses.now

abbrev pub sized_outcome_of : Masses → PlanRows → Outcome
sized_outcome_of M P = transport_sized M.left.now M.right.now M.costs.now P.rows.now P.columns.now P.masses.now

-- an answer, and what it leaves of the columns, are such an outcome
abbrev pub Ends : Outcome → Result Plan Refusal → PlanRows → Type 0
Ends O answer Q = ends (numbered answer) Q.rows.now Q.columns.now Q.masses.now ≡ O
