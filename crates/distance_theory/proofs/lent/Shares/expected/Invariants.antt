-- The invariant: the shares still to come, added to the total, are the sum of all (Summing.Adding).
use Rattle.std.specs.Iterator.Adapters.{zip_first, zip_second}
use Rattle.std.specs.Slice.Iter.{iter_rest}
use Rattle.distance_theory.proofs.Summing.{Adding}
use Rattle.distance_theory.proofs.lent.Shares.expected.Given as goal

abbrev pub invariant-loop-place : goal.invariant-loop-place
invariant-loop-place l = Adding l.values l.self.places.now l.self.masses.now l.total (iter_rest (zip_first l.place-iterator)) (iter_rest (zip_second l.place-iterator))
