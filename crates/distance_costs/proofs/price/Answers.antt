-- By the check of the counts.
use mathlib.Core.Bool.{not}
use mathlib.Core.Path.{sym, ap}
use lib.Seq.{length-take-le}
use Rattle.distance_costs.proofs.Pricing.{counts_known, uncounted, counting}
use Rattle.distance_costs.proofs.price.Goals as goal

pub returns-then-not-long-clause-priced : goal.returns-then-not-long-clause-priced
returns-then-not-long-clause-priced c = uncounted c.args.pairs.now c.args.cost.now c.long.ensures c.args.left.now c.args.right.now c.args.gamma (ap not c.if-not-long.true)

pub slice_bounds-price_each-end : goal.slice_bounds-price_each-end
slice_bounds-price_each-end c = (counts_known c.args.pairs.now c.args.cost.now c.long.ensures (ap not c.if-not-long.false)).1

pub slice_bounds-price_each-end-2 : goal.slice_bounds-price_each-end-2
slice_bounds-price_each-end-2 c = sym (length-take-le _ c.args.cost.now (counts_known c.args.pairs.now c.args.cost.now c.long.ensures (ap not c.if-not-long.false)).1)

pub price_each-requires : goal.price_each-requires
price_each-requires c = let (a, b) = counts_known c.args.pairs.now c.args.cost.now c.long.ensures (ap not c.if-not-long.false) in (a, length-take-le _ c.args.cost.now b)

pub returns-clause-priced : goal.returns-clause-priced
returns-clause-priced c = counting c.args.pairs.now c.args.cost.now c.long.ensures c.args.left.now c.args.right.now c.args.gamma (ap not c.if-not-long.false) _ c.price_each.ensures
