-- `sweeps::sweep` meets its contract. The loop's invariant: the definition comes from the turn of (s, t) to where it comes from the first (Resuming).
use mathlib.Core.Bool.{false}
use Prim.Native.Nat.{◌≤◌, ◌<◌}
use Rattle.flow_links.proofs.RowsRead.{states_of}
use Rattle.epsdelta_sweeps.specs.Place.{Same}
use Rattle.epsdelta_sweeps.specs.Leading.{FromTurn}
use Rattle.epsdelta_sweeps.proofs.sweeps.sweep.Given as goal

abbrev pub invariant-loop-s : goal.invariant-loop-s
invariant-loop-s l = (l.s < l.t) × (l.s < states_of l.terms.rows → l.t ≤ states_of l.terms.rows) × FromTurn l.terms l.initial.memory l.fn.at l.memory l.s l.t false l.struck false × Same l.initial.memory l.memory
