-- The invariant is `Making`: the rows of the states passed stand in the lists. A turn makes the row of the next behind them.
use Rattle.epsdelta_jumps.proofs.Makes.{Making}
use Rattle.epsdelta_jumps.proofs.rows.model_rows.Given as goal

abbrev pub invariant-loop-s : goal.invariant-loop-s
invariant-loop-s l = Making l.model l.off l.at l.initial.rows l.rows l.end l.s
