-- The invariant: the rows of the states passed were met. A turn meets one more.
use lib.ListN.{take}
use Rattle.std.specs.Prelude.{Ok}
use Rattle.distance_theory.specs.Lent.{SamePairs}
use Rattle.distance_theory.proofs.Discovery.{Noting, Taken, crossing}
use Rattle.distance_pairs.proofs.discover.meet_rows.Given as goal

abbrev pub invariant-loop-x : goal.invariant-loop-x
invariant-loop-x l = SamePairs l.initial.pairs l.pairs × Noting l.pairs × Taken (crossing (take l.x-index l.xs) l.ys) (Ok tt) l.initial.pairs l.pairs
