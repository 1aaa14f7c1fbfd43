use mathlib.Core.Path.{refl, ◌∙◌}
use native.Mathlib.Omega.{arith}
use lib.ListN.{length-set}
use Rattle.distance_costs.proofs.Pricing.{cost_next, cost_done}
use Rattle.distance_costs.proofs.price_each.Goals as goal

pub loop-k-init : goal.loop-k-init
loop-k-init c = (omega arith, refl, refl)

pub loop-k-preserved : goal.loop-k-preserved
loop-k-preserved c =
    let h = c.loop-k-test.true in
    let e = c.loop-k.invariant.1 in
    let r = c.requires.1 in
    (omega arith, length-set c.loop-k.cost c.loop-k.k _ ∙ e, cost_next c.args.pairs.now c.args.left.now c.args.right.now c.args.gamma c.args.cost.now c.loop-k.cost c.loop-k.k c.loop-k.invariant.2 _ _ _ c.value_at-x.ensures c.value_at-y.ensures c.apart.ensures (omega arith) r)

pub returns : goal.returns
returns c =
    let h = c.loop-k-test.false in
    let b = c.loop-k.invariant.0 in
    let e = c.loop-k.invariant.1 in
    let r = c.requires.1 in
    cost_done c.args.pairs.now c.args.left.now c.args.right.now c.args.gamma c.args.cost.now c.loop-k.cost c.loop-k.k c.loop-k.invariant.2 (omega arith) r
