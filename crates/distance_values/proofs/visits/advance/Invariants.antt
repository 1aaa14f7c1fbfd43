-- `visits::advance` meets its contract. The loop's invariant: the first k masses are moved, and added up (Visiting.Moving).
use Rattle.distance_values.proofs.Visiting.{Moving}
use Rattle.distance_values.proofs.visits.advance.Given as goal

abbrev pub invariant-loop-k : goal.invariant-loop-k
invariant-loop-k l = Moving l.initial.current l.initial.next l.current l.next l.total l.k
