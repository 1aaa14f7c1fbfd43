-- `sweeps::advance` meets its contract. The loop's invariant: the definition comes from the end of a sweep to where it comes from the first place; fewer pairs are left after each that struck (Resuming).
use Prim.Native.Nat.{◌+◌}
use Rattle.numbers.proofs.Bools.{one_if}
use Rattle.flow_duality.proofs.Places.{standing}
use Rattle.flow_links.proofs.RowsRead.{states_of}
use Rattle.epsdelta_sweeps.specs.Place.{Same}
use Rattle.epsdelta_sweeps.specs.Leading.{FromTurn, Past}
use Rattle.epsdelta_sweeps.proofs.sweeps.advance.Given as goal

abbrev pub invariant-loop-struck : goal.invariant-loop-struck
invariant-loop-struck l = Past (FromTurn l.terms l.fn.memory l.fn.at l.memory) (states_of l.terms.rows) l.struck × Same l.fn.memory l.memory

abbrev pub decreases-loop-struck : goal.decreases-loop-struck
decreases-loop-struck l = standing (states_of l.terms.rows) l.memory.relation.now + one_if l.struck
