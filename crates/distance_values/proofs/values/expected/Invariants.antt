-- The invariant: the shares still to come, added to the total, are the sum of all (Summing.Adding).
use lib.ListN.{drop}
use Rattle.distance_theory.proofs.Summing.{Adding}
use Rattle.distance_values.proofs.values.expected.Given as goal

abbrev pub invariant-loop-i : goal.invariant-loop-i
invariant-loop-i l = Adding l.values l.shares.places.now l.shares.masses.now l.total (drop l.i l.shares.places.now) (drop l.i l.shares.masses.now)
