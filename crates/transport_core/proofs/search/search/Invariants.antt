-- `search::search` meets its contract. The loop's invariant: the passes still to come, from this tree, lead to the last one (Searches.Searching).
use Rattle.transport_theory.proofs.Searches.{Searching}
use Rattle.transport_core.proofs.search.search.Given as goal

abbrev pub invariant-loop : goal.invariant-loop
invariant-loop l = Searching l.net.heads.now l.net.list.now l.net.starts.now l.caps l.net.costs.now l.initial.tree.dist.now l.initial.tree.via.now l.tree.dist.now l.tree.via.now l.counter
