use Rattle.std.proofs.Common.{rules}
use mathlib.Core.Path.{refl}
use Prim.Native.Nat.{◌+◌, ◌*◌}
use lib.ListN.{length, get_or, drop}
use Rattle.epsdelta_theory.proofs.LinkRows.{cross_row, cross_rows}
use Rattle.flow_links.proofs.LinkWrites.{adding_start, adding_on, adding_end, free_next, crosses_next, crosses_end}
use Rattle.flow_links.proofs.links.add_crosses.Goals as goal

pub loop-i-init : goal.loop-i-init
loop-i-init c = (adding_start _ _ _ refl, (refl, refl))

pub add_cross-requires-clause-free : goal.add_cross-requires-clause-free
add_cross-requires-clause-free c = free_next (cross_row c.args.test.now.relation.now (get_or c.args.test.now.left.targets.now c.loop-i.i 0 * c.args.test.now.states) c.loop-i.i (length c.args.test.now.left.targets.now) c.args.test.now.right.targets.now) (cross_rows c.args.test.now.relation.now c.args.test.now.states (c.loop-i.i + 1) (length c.args.test.now.left.targets.now) (drop (c.loop-i.i + 1) c.args.test.now.left.targets.now) c.args.test.now.right.targets.now) (crosses_next c.args.test.now.relation.now c.args.test.now.states (length c.args.test.now.left.targets.now) c.loop-i.i c.args.test.now.left.targets.now c.args.test.now.right.targets.now c.loop-i-test.true) c.requires.free c.loop-i.invariant.0

pub loop-i-preserved : goal.loop-i-preserved
loop-i-preserved c = (adding_on (cross_row c.args.test.now.relation.now (get_or c.args.test.now.left.targets.now c.loop-i.i 0 * c.args.test.now.states) c.loop-i.i (length c.args.test.now.left.targets.now) c.args.test.now.right.targets.now) (cross_rows c.args.test.now.relation.now c.args.test.now.states (c.loop-i.i + 1) (length c.args.test.now.left.targets.now) (drop (c.loop-i.i + 1) c.args.test.now.left.targets.now) c.args.test.now.right.targets.now) (crosses_next c.args.test.now.relation.now c.args.test.now.states (length c.args.test.now.left.targets.now) c.loop-i.i c.args.test.now.left.targets.now c.args.test.now.right.targets.now c.loop-i-test.true) c.loop-i.invariant.0 c.add_cross.ensures.added, search rules)

pub returns-clause-added : goal.returns-clause-added
returns-clause-added c = adding_end (crosses_end c.args.test.now.relation.now c.args.test.now.states (length c.args.test.now.left.targets.now) c.loop-i.i c.args.test.now.left.targets.now c.args.test.now.right.targets.now c.loop-i-test.false) c.loop-i.invariant.0
