-- The invariant: the shares still to come lead from these masses to the last ones (Visiting.Pouring).
use Rattle.std.specs.Iterator.Adapters.{zip_first, zip_second}
use Rattle.std.specs.Slice.Iter.{iter_rest}
use Rattle.distance_values.proofs.Visiting.{Pouring}
use Rattle.distance_values.proofs.visits.pour.Given as goal

abbrev pub invariant-loop-place : goal.invariant-loop-place
invariant-loop-place l = Pouring l.shares.places.now l.shares.masses.now l.x l.initial.next l.next (iter_rest (zip_first l.place-iterator)) (iter_rest (zip_second l.place-iterator))
