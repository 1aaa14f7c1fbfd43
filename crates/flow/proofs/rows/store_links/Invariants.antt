-- `rows::store_links` meets its contract: at turn i the first i links are taken from the rows, and the next cost is `cost_at i` (Laid.LaidTo).
use lib.ListN.{length}
use Rattle.flow.proofs.Laid.{LaidTo}
use Rattle.flow.proofs.rows.store_links.Given as goal

abbrev pub invariant-loop-i : goal.invariant-loop-i
invariant-loop-i l = LaidTo l.initial.net l.heads l.caps l.net l.cost l.i (length l.heads)
