use Rattle.flow_direct.proofs.Lasting.{tried_on}
use Rattle.flow_direct.proofs.search.Search.settle.Goals as goal

pub loop-preserved : goal.loop-preserved
loop-preserved c = tried_on c.args.need c.args.self.now c.args.before c.loop.self c.loop.so_far c.loop.invariant c.try_once.new.self c.in-Continue.next c.in-Continue.ensures
