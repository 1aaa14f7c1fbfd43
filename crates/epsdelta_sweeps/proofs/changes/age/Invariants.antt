-- The invariant: the strikes passed are those of the sweep before, the others not yet.
use Rattle.epsdelta_sweeps.proofs.Noting.{Fading}
use Rattle.epsdelta_sweeps.proofs.changes.age.Given as goal

abbrev pub invariant-loop-x : goal.invariant-loop-x
invariant-loop-x l = Fading l.initial.strikes l.strikes l.x-index
