-- `links::add_cross` meets its contract. The loop's invariant: the links still to come are those of the targets from j on (LinkWrites).
use Prim.Native.Nat.{◌+◌, ◌*◌}
use lib.ListN.{length, get_or, drop}
use Rattle.epsdelta_theory.proofs.LinkRows.{cross_row}
use Rattle.flow_links.specs.Rows.{Same}
use Rattle.flow_links.proofs.LinkWrites.{Adding}
use Rattle.flow_links.proofs.links.add_cross.Given as goal

abbrev pub invariant-loop-j : goal.invariant-loop-j
invariant-loop-j l =
    Adding (cross_row l.test.relation.now (get_or l.test.left.targets.now l.node 0 * l.test.states) l.node (length l.test.left.targets.now) l.test.right.targets.now) (cross_row l.test.relation.now (get_or l.test.left.targets.now l.node 0 * l.test.states) l.node (length l.test.left.targets.now + l.j) (drop l.j l.test.right.targets.now)) l.initial.rows.heads.now l.initial.rows.caps.now l.initial.rows.next l.rows.heads.now l.rows.caps.now l.rows.next
    × Same l.initial.rows l.rows
