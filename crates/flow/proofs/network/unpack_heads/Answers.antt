use Rattle.flow.proofs.Packing.{heading_on}
use Rattle.flow.proofs.network.unpack_heads.Goals as goal

pub loop-i-preserved : goal.loop-i-preserved
loop-i-preserved c = heading_on c.args.links.now c.args.heads.now c.requires c.loop-i.invariant c.loop-i-test.true
