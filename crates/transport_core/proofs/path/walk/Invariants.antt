-- `path::walk` meets its contract. The loop's invariant: the links walked so far and the definition's walk from v on are the whole path (Walks.Walking).
use Rattle.flow_check.specs.Lent.{net_on}
use Rattle.transport_theory.proofs.Walks.{Walking}
use Rattle.transport_core.proofs.path.walk.Given as goal

abbrev pub invariant-loop-length : goal.invariant-loop-length
invariant-loop-length l = Walking (net_on l.course) l.via l.initial.path l.path l.v l.length
