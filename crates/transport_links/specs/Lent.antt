-- Masses, and rows of links, that are lent.
use Rattle.std.specs.Prelude.{◌≡◌, ℕ, ◌*◌, ◌≤◌, List, length}
use Rattle.flow_check.specs.declared.Edge.{Edge}
use Rattle.transport_theory.specs.declared.Masses.{Masses}
use Rattle.transport_theory.specs.Links.{Link, links}
use Rattle.transport_theory.proofs.LinkRows.{Put, Writable}
use Rattle.transport_links.specs.declared.links.LinkRows.{LinkRows}

-- the rows are the ones that were lent: what stands in one now is what stands in the lender's when it ends
abbrev pub same_rows : LinkRows → LinkRows → Type 0
same_rows R S = (S.heads.ghost_name ≡ R.heads.ghost_name) × (S.caps.ghost_name ≡ R.caps.ghost_name) × (S.prices.ghost_name ≡ R.prices.ghost_name)

-- a link that is to be added
abbrev pub link_of : Edge → Link
link_of E = record { from = E.from; to = E.to; cap = E.cap; cost = E.cost }

-- the links of masses that are lent
abbrev pub links_in : Masses → List Link
links_in M = links M.left.now M.right.now M.costs.now

-- at most 32 of them on a side, and a cost for each cell
abbrev pub Costed : Masses → Type 0
Costed M = (length M.left.now ≤ 32) × (length M.right.now ≤ 32) × (length M.left.now * length M.right.now ≤ length M.costs.now)

-- the same, and room for the links
abbrev pub Roomy : Masses → LinkRows → Type 0
Roomy M R = Writable M.left.now M.right.now M.costs.now R.heads.now R.caps.now R.prices.now

-- a link was put at place e, and its reverse after it
abbrev pub Putting : Link → LinkRows → ℕ → LinkRows → Type 0
Putting l R e S = Put l R.heads.now R.caps.now R.prices.now e S.heads.now S.caps.now S.prices.now
