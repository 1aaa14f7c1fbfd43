-- `values::sweep` meets its contract. The loop's invariant: the pairs still to come lead from these values to the last ones (Sweeping.Sweeping).
use Rattle.distance_values.proofs.Sweeping.{Sweeping}
use Rattle.distance_values.proofs.values.sweep.Given as goal

abbrev pub invariant-loop-k : goal.invariant-loop-k
invariant-loop-k l = Sweeping l.of.policy.store.starts.now l.of.policy.store.lengths.now l.of.policy.store.places.now l.of.policy.store.masses.now l.of.cost.now l.of.policy.gamma l.initial.value l.value l.delta l.k
