use Rattle.std.proofs.Common.{rules}
use mathlib.Core.Path.{refl, ap}
use Prim.Native.Nat.{ℕ, ◌*◌}
use native.Mathlib.Nat.{add-zero}
use lib.ListN.{length, get_or}
use Rattle.epsdelta_theory.proofs.LinkRows.{cross_row}
use Rattle.flow_links.proofs.LinkWrites.{if_put, if_none, if_free, adding_start, adding_on, adding_end, free_next, cross_next, cross_end}
use Rattle.flow_links.proofs.links.add_cross.Goals as goal
use Rattle.flow_links.proofs.links.add_cross.Goals.{then-related, else-related}

pub loop-j-init : goal.loop-j-init
loop-j-init c = (adding_start _ _ _ (ap (λ (k : ℕ). cross_row c.args.test.now.relation.now (get_or c.args.test.now.left.targets.now c.args.node 0 * c.args.test.now.states) c.args.node k c.args.test.now.right.targets.now) (add-zero (length c.args.test.now.left.targets.now))), (refl, refl))

pub put-requires-clause-free : goal.put-requires-clause-free
put-requires-clause-free c = if_free c.related.result _ _ c.if-related.true (free_next _ _ (cross_next _ _ _ _ _ _ (c.related.ensures.bit c.requires.bounds.1.1) c.loop-j-test.true) c.requires.free c.loop-j.invariant.0)

pub loop-j-preserved : goal.loop-j-preserved
loop-j-preserved c =
    let next = cross_next c.args.test.now.relation.now (get_or c.args.test.now.left.targets.now c.args.node 0 * c.args.test.now.states) c.args.node (length c.args.test.now.left.targets.now) c.loop-j.j c.args.test.now.right.targets.now (c.related.ensures.bit c.requires.bounds.1.1) c.loop-j-test.true in
    elim c.if-related.branch [
      | then-related w ↦ rw w.rows-is (adding_on _ _ next c.loop-j.invariant.0 (if_put c.related.result w.if-related.true w.infinity.ensures w.put.ensures.added), search rules)
      | else-related w ↦ rw w.rows-is (adding_on _ _ next c.loop-j.invariant.0 (if_none c.related.result _ _ _ _ _ w.if-related.false), search rules)
    ]

pub returns-clause-added : goal.returns-clause-added
returns-clause-added c = adding_end (cross_end _ _ _ _ _ _ c.loop-j-test.false) c.loop-j.invariant.0
