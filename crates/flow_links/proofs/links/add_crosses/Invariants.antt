-- `links::add_crosses` meets its contract. The loop's invariant: the links still to come are those of the targets from i on (LinkWrites).
use lib.ListN.{length, drop}
use Rattle.epsdelta_theory.proofs.LinkRows.{cross_rows}
use Rattle.flow_links.specs.Rows.{Same}
use Rattle.flow_links.proofs.LinkWrites.{Adding}
use Rattle.flow_links.proofs.links.add_crosses.Given as goal

abbrev pub invariant-loop-i : goal.invariant-loop-i
invariant-loop-i l =
    Adding (cross_rows l.test.relation.now l.test.states 0 (length l.test.left.targets.now) l.test.left.targets.now l.test.right.targets.now) (cross_rows l.test.relation.now l.test.states l.i (length l.test.left.targets.now) (drop l.i l.test.left.targets.now) l.test.right.targets.now) l.initial.rows.heads.now l.initial.rows.caps.now l.initial.rows.next l.rows.heads.now l.rows.caps.now l.rows.next
    × Same l.initial.rows l.rows
