use Rattle.flow_core.proofs.Leaving.{node_scannable, node_scanned}
use Rattle.flow_theory.proofs.Searching.{starts_outer, outer_ends}
use Rattle.flow_core.proofs.levels.levels.Goals as goal

pub loop-first-init : goal.loop-first-init
loop-first-init c = starts_outer c.requires

pub scan-requires : goal.scan-requires
scan-requires c = node_scannable c.args.course.now.net c.requires c.loop-first.invariant c.loop-first-test.true

pub loop-first-preserved : goal.loop-first-preserved
loop-first-preserved c = node_scanned c.args.course.now.net c.requires c.loop-first.invariant c.loop-first-test.true c.scan.ensures

pub returns : goal.returns
returns c = outer_ends c.requires c.loop-first.invariant c.loop-first-test.false
