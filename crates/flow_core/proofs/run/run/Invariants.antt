-- `run::run` meets its contract. The loop's invariant: the definition's run from these capacities, with these phases done, comes to its end (Running.RunsOn); there are fewer phases than nodes.
use Prim.Native.Nat.{◌-◌}
use Rattle.flow_check.specs.Lent.{net_on}
use Rattle.flow_theory.proofs.Running.{RunsOn}
use Rattle.flow_core.proofs.run.run.Given as goal

abbrev pub invariant-loop-p : goal.invariant-loop-p
invariant-loop-p l = RunsOn (net_on l.course) l.initial.caps l.caps l.flow l.phases l.pushes

abbrev pub decreases-loop-p : goal.decreases-loop-p
decreases-loop-p l = l.course.net.nodes - l.phases
