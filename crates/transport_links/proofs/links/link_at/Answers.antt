-- `links::link_at` meets its contract: the k-th link is one of a, one of b or one between two masses (LinkWrites).
use mathlib.Core.Path.{sym}
use native.Mathlib.Omega.{arith}
use lib.ListN.{length}
use Rattle.transport_theory.proofs.Networks.{cells_few}
use Rattle.transport_theory.proofs.LinkWrites.{links_supply, links_demand, cell_few, cell_some, cell_link}
use Rattle.transport_links.proofs.links.link_at.Goals as goal

pub returns-then-k-m-clause-is : goal.returns-then-k-m-clause-is
returns-then-k-m-clause-is c = sym (links_supply c.args.of.now.left.now c.args.of.now.right.now c.args.of.now.costs.now c.args.k c.if-k-m.true)

pub returns-then-k-source-clause-is : goal.returns-then-k-source-clause-is
returns-then-k-source-clause-is c = sym (links_demand c.args.of.now.left.now c.args.of.now.right.now c.args.of.now.costs.now c.args.k c.if-k-m.false c.if-k-source.true)

pub nonzero_div-result : goal.nonzero_div-result
nonzero_div-result c = (cell_some _ _ _ c.requires.costed.2 _ c.requires.k_in_bounds c.if-k-source.false).0

pub nonzero_rem-result : goal.nonzero_rem-result
nonzero_rem-result c = (cell_some _ _ _ c.requires.costed.2 _ c.requires.k_in_bounds c.if-k-source.false).0

pub bounds-of-cell : goal.bounds-of-cell
bounds-of-cell c = (cell_some _ _ _ c.requires.costed.2 _ c.requires.k_in_bounds c.if-k-source.false).1

pub offset_bounds-of-cell : goal.offset_bounds-of-cell
offset_bounds-of-cell c =
    let few = cells_few (length c.args.of.now.left.now) (length c.args.of.now.right.now) c.requires.costed.0 c.requires.costed.1 in
    let f = cell_few c.args.of.now.left.now c.args.of.now.right.now c.args.of.now.costs.now c.requires.costed.2 _ c.requires.k_in_bounds c.if-k-source.false in
    omega arith

pub returns-clause-is : goal.returns-clause-is
returns-clause-is c = cell_link c.args.of.now.left.now c.args.of.now.right.now c.args.of.now.costs.now c.requires.costed.2 _ c.requires.k_in_bounds c.if-k-source.false c.infinity.ensures

pub returns-clause-ends : goal.returns-clause-ends
returns-clause-ends c =
    let f = c.requires.costed.0 in let g = c.requires.costed.1 in
    let z = cell_some _ _ _ c.requires.costed.2 _ c.requires.k_in_bounds c.if-k-source.false in
    let d = z.2 in let r = z.3 in (omega arith, omega arith)
