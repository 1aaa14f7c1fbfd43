use lib.ListN.{length}
use Rattle.flow.proofs.Laid.{lay_begins, lay_on}
use Rattle.flow.proofs.rows.store_links.Goals as goal

pub loop-i-init : goal.loop-i-init
loop-i-init c = lay_begins c.args.net.now c.args.heads.now c.args.caps.now (length c.args.heads.now)

pub loop-i-preserved : goal.loop-i-preserved
loop-i-preserved c = lay_on c.args.net.now c.args.heads.now c.args.caps.now c.loop-i.invariant c.loop-i-test.true
