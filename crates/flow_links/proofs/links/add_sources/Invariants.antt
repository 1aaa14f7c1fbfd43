-- `links::add_sources` meets its contract. The loop's invariant: the links still to come are those of the rates from i on (LinkWrites).
use lib.ListN.{drop}
use Rattle.epsdelta_theory.proofs.LinkRows.{source_row}
use Rattle.flow_links.specs.Rows.{Same}
use Rattle.flow_links.proofs.LinkWrites.{Adding}
use Rattle.flow_links.proofs.links.add_sources.Given as goal

abbrev pub invariant-loop-i : goal.invariant-loop-i
invariant-loop-i l = Adding (source_row l.source 0 l.rates) (source_row l.source l.i (drop l.i l.rates)) l.initial.rows.heads.now l.initial.rows.caps.now l.initial.rows.next l.rows.heads.now l.rows.caps.now l.rows.next × Same l.initial.rows l.rows
