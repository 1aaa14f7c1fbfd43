-- `visits::stay_all` meets its contract. The loop's invariant: the pairs still to come lead from these lists to the last ones (Visiting.Stays).
use Rattle.distance_values.proofs.Visiting.{Stays}
use Rattle.distance_values.proofs.visits.stay_all.Given as goal

abbrev pub invariant-loop-k : goal.invariant-loop-k
invariant-loop-k l = Stays l.of.store.starts.now l.of.store.lengths.now l.of.store.places.now l.of.store.masses.now l.of.gamma l.current l.initial.next l.initial.spent l.next l.spent l.k
