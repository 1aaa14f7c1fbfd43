-- `values::sweeps_in` meets its contract. The loop's invariant: the sweeps still to come lead from these values to the last ones (Sweeping.Repeating).
use Rattle.distance_values.proofs.Sweeping.{Repeating}
use Rattle.distance_values.proofs.values.sweeps_in.Given as goal

abbrev pub invariant-loop : goal.invariant-loop
invariant-loop l = Repeating l.limit l.of.policy.store.starts.now l.of.policy.store.lengths.now l.of.policy.store.places.now l.of.policy.store.masses.now l.of.cost.now l.of.policy.gamma l.tol l.initial.value l.value l.counter
