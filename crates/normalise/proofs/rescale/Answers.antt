-- A turn scales the next.
use Rattle.std.proofs.Common.{ap, set, ◌∙◌}
use Rattle.chain_theory.specs.Chain.{scaled}
use Rattle.parts.proofs.Maps.{map_next}
use Rattle.normalise.proofs.rescale.Goals as goal

pub loop-x-preserved : goal.loop-x-preserved
loop-x-preserved c =
    ap (set c.loop-x.list c.loop-x.x-index) c.scaled.ensures ∙ map_next (scaled c.args.least c.args.scale) c.args.list.now c.loop-x.list c.loop-x.x-index _ c.loop-x-test.true c.loop-x.invariant
