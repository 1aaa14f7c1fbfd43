-- Masses, and the columns of a plan, that are lent.
use Rattle.std.specs.Prelude.{◌≡◌, ℕ, Bool, List, length, Float}
use Rattle.transport_theory.specs.declared.Masses.{Masses}
use Rattle.transport_theory.specs.Refusal.{short, costs_fit, transport_refusal}
use Rattle.transport_theory.proofs.TransportRows as rows
use Rattle.transport_core.specs.declared.rows.Links.{Links}
use Rattle.transport_links.specs.declared.links.LinkRows.{LinkRows}
use Rattle.transport.specs.declared.plan.PlanRows.{PlanRows}
use Rattle.transport.specs.Outcome.{size_refusal}

-- the columns are the ones that were lent: what stands in one now is what stands in the lender's when it ends
abbrev pub same_columns : PlanRows → PlanRows → Type 0
same_columns P Q = (Q.rows.ghost_name ≡ P.rows.ghost_name) × (Q.columns.ghost_name ≡ P.columns.ghost_name) × (Q.masses.ghost_name ≡ P.masses.ghost_name)

-- at most 32 masses on a side, a cost for each cell, and room for each in the plan
abbrev pub Planable : Masses → PlanRows → Type 0
Planable M P = rows.Roomy M.left.now M.right.now M.costs.now P.rows.now P.columns.now P.masses.now

-- rows with room for the links of the masses, and for the plan
abbrev pub Loadable : Masses → LinkRows → List ℕ → PlanRows → Type 0
Loadable M R list P = rows.Loadable M.left.now M.right.now M.costs.now R.heads.now R.caps.now R.prices.now list P.rows.now P.columns.now P.masses.now

-- the links of the masses, their capacities, and room for the plan
abbrev pub Carried : Masses → Links → List Float → List ℕ → PlanRows → Type 0
Carried M L caps list P = rows.Carried M.left.now M.right.now M.costs.now L.heads.now caps L.prices.now list P.rows.now P.columns.now P.masses.now

-- the capacities of these links, and room for the plan
abbrev pub Readied : Masses → List Float → PlanRows → Type 0
Readied M caps P = rows.Readied M.left.now M.right.now M.costs.now caps P.rows.now P.columns.now P.masses.now

-- a list that is lent is short
abbrev pub lacking : Masses → PlanRows → Bool
lacking M P = short (length M.left.now) (length M.right.now) (length M.costs.now) (length P.rows.now) (length P.columns.now) (length P.masses.now)

-- each cell's cost is from 0 to 2^40
abbrev pub right : Masses → Bool
right M = costs_fit (length M.left.now) (length M.right.now) M.costs.now

-- the first check that fails, of all and of those of sizes
abbrev pub refused : Masses → PlanRows → ℕ
refused M P = transport_refusal (right M) M.left.now M.right.now (length M.costs.now) (length P.rows.now) (length P.columns.now) (length P.masses.now)

abbrev pub refused_size : Masses → PlanRows → ℕ
refused_size M P = size_refusal (length M.left.now) (length M.right.now) (length M.costs.now) (length P.rows.now) (length P.columns.now) (length P.masses.now)
