-- `search::relax` meets its contract. The loop's invariant: the definition, run on the links still to come from this tree, gives the last one (Searches.Relaxing).
use Rattle.transport_theory.proofs.Searches.{Relaxing}
use Rattle.transport_core.proofs.search.relax.Given as goal

abbrev pub invariant-loop-link : goal.invariant-loop-link
invariant-loop-link l = Relaxing l.net.heads.now l.links l.caps l.net.costs.now l.u l.initial.tree.dist.now l.initial.tree.via.now l.before l.tree.dist.now l.tree.via.now l.changed l.link-index
