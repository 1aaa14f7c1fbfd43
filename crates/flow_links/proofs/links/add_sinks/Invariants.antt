-- `links::add_sinks` meets its contract. The loop's invariant: the links still to come are those of the rates from i on (LinkWrites).
use Prim.Native.Nat.{◌+◌}
use lib.ListN.{drop}
use Rattle.epsdelta_theory.proofs.LinkRows.{sink_row}
use Rattle.flow_links.specs.Rows.{Same}
use Rattle.flow_links.proofs.LinkWrites.{Adding}
use Rattle.flow_links.proofs.links.add_sinks.Given as goal

abbrev pub invariant-loop-i : goal.invariant-loop-i
invariant-loop-i l = Adding (sink_row l.sink l.first l.rates) (sink_row l.sink (l.first + l.i) (drop l.i l.rates)) l.initial.rows.heads.now l.initial.rows.caps.now l.initial.rows.next l.rows.heads.now l.rows.caps.now l.rows.next × Same l.initial.rows l.rows
