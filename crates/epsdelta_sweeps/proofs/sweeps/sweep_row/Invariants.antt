-- `sweeps::sweep_row` meets its contract. The loop's invariant: the definition comes from the turn of (s, t) to where it comes from the first (Resuming).
use mathlib.Core.Bool.{false}
use Prim.Native.Nat.{ℕ, ◌-◌, ◌≤◌}
use Rattle.flow_links.proofs.RowsRead.{states_of}
use Rattle.epsdelta_sweeps.specs.Place.{Same}
use Rattle.epsdelta_sweeps.specs.Leading.{FromTurn}
use Rattle.epsdelta_sweeps.proofs.sweeps.sweep_row.Given as goal

abbrev pub invariant-loop-t : goal.invariant-loop-t
invariant-loop-t l = FromTurn l.terms l.initial.memory l.at l.memory l.at.s l.from false l.struck false × (l.at.t ≤ l.from) × (l.from ≤ states_of l.terms.rows) × Same l.initial.memory l.memory

abbrev pub decreases-loop-t : goal.decreases-loop-t
decreases-loop-t l = states_of l.terms.rows - l.from
