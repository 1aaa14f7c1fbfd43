-- The least and the greatest go over the one list and then over the other, and both are scaled by them.
use Rattle.normalise.proofs.Scaling.{both_scaled}
use Rattle.normalise.proofs.scale_together.Goals as goal

pub returns : goal.returns
returns c =
    both_scaled c.args.left.now c.args.right.now _ _ _ _ _ _ _
    c.infinity-top.ensures c.least_from-low.ensures c.least_from-least.ensures c.greatest_from-high.ensures c.greatest_from.ensures c.rescale.ensures c.rescale-2.ensures
