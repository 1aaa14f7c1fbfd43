-- `visits::rounds` meets its contract. The loop's invariant: the rounds still to come lead from these lists to the last ones (Visiting.Going).
use Rattle.distance_values.proofs.Visiting.{Going}
use Rattle.distance_values.proofs.visits.rounds.Given as goal

abbrev pub invariant-loop : goal.invariant-loop
invariant-loop l = Going l.limit l.of.store.starts.now l.of.store.lengths.now l.of.store.places.now l.of.store.masses.now l.of.gamma l.mass l.initial.current l.initial.spent l.left l.current l.next l.spent l.counter
