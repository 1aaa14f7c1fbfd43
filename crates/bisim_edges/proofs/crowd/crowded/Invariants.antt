-- The keys rise, so those of a state stand together: `seen` holds the distinct targets of the state at hand, other than itself, and no state before has over 31 (`Crowding`).
-- A turn takes one key; a 32nd target answers true, the end false.
use Rattle.bisim_edges.proofs.Crowds.{Crowding}
use Rattle.bisim_edges.proofs.crowd.crowded.Given as goal

abbrev pub invariant-loop-number : goal.invariant-loop-number
invariant-loop-number l = Crowding l.keys l.weights l.seen.targets l.seen.count l.state l.number-index
