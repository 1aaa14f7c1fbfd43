-- `links::put_links` meets its contract. The loop's invariant: the first k links stand over the front of the rows that were lent (LinkRows.Wrote).
use Rattle.transport_theory.specs.Links.{links}
use Rattle.transport_theory.proofs.LinkRows.{Wrote}
use Rattle.transport_links.specs.Lent.{same_rows}
use Rattle.transport_links.proofs.links.put_links.Given as goal

abbrev pub invariant-loop-k : goal.invariant-loop-k
invariant-loop-k l = Wrote (links l.of.left.now l.of.right.now l.of.costs.now) l.initial.rows.heads.now l.initial.rows.caps.now l.initial.rows.prices.now l.k l.rows.heads.now l.rows.caps.now l.rows.prices.now
    × same_rows l.initial.rows l.rows
