-- `path::push_path` meets its contract. The loop's invariant: pushing along what is still to come of the path, from these capacities, gives the last ones (Pushing.PushesOn).
use Rattle.flow_theory.proofs.Pushing.{PushesOn}
use Rattle.flow_theory.proofs.path.push_path.Given as goal

abbrev pub invariant-loop-e : goal.invariant-loop-e
invariant-loop-e l = PushesOn l.x l.initial.caps l.path l.e-index l.caps
