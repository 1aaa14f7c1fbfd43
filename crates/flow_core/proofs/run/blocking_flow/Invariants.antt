-- `run::blocking_flow` meets its contract. The loop's invariant: the definition's phase from these capacities and marks comes to its end (Blocking.PhaseGoing); a push is left for each link at most, so the links less the pushes fall.
use Prim.Native.Nat.{◌-◌}
use lib.ListN.{length}
use Rattle.flow_check.specs.Lent.{net_on}
use Rattle.flow_theory.proofs.Blocking.{PhaseGoing}
use Rattle.flow_core.proofs.run.blocking_flow.Given as goal

abbrev pub invariant-loop-path : goal.invariant-loop-path
invariant-loop-path l = PhaseGoing (net_on l.phase.course) l.initial.caps l.phase.level.now l.before l.caps l.next l.flow l.count

abbrev pub decreases-loop-path : goal.decreases-loop-path
decreases-loop-path l = length l.phase.course.net.heads.now - l.count
