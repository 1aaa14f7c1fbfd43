-- `search::pass` meets its contract. The loop's invariant: the nodes still to come, from this tree, lead to the last one (Searches.Passing).
use Rattle.transport_theory.proofs.Searches.{Passing}
use Rattle.transport_core.proofs.search.pass.Given as goal

abbrev pub invariant-loop-u : goal.invariant-loop-u
invariant-loop-u l = Passing l.net.heads.now l.net.list.now l.net.starts.now l.caps l.net.costs.now l.initial.tree.dist.now l.initial.tree.via.now l.tree.dist.now l.tree.via.now l.changed l.u
