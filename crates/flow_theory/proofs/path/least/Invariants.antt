-- `path::least` meets its contract. The loop's invariant: the least of y and what is still to come of the path is the least of the whole (Pushing.Least).
use Rattle.flow_theory.proofs.Pushing.{Least}
use Rattle.flow_theory.proofs.path.least.Given as goal

abbrev pub invariant-loop-e : goal.invariant-loop-e
invariant-loop-e l = Least l.x l.caps l.path l.e-index l.y
