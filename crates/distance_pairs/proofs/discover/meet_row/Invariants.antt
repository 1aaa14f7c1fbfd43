-- The invariant: the pairs with the states passed were met. A turn meets one more.
use mathlib.Core.List.{map}
use lib.ListN.{take}
use Rattle.std.specs.Prelude.{Ok}
use Rattle.distance_theory.specs.Lent.{SamePairs}
use Rattle.distance_theory.specs.Pairs.{pair}
use Rattle.distance_theory.proofs.Discovery.{Noting, Taken}
use Rattle.distance_pairs.proofs.discover.meet_row.Given as goal

abbrev pub invariant-loop-y : goal.invariant-loop-y
invariant-loop-y l = SamePairs l.initial.pairs l.pairs × Noting l.pairs × Taken (map (pair l.x) (take l.y-index l.ys)) (Ok tt) l.initial.pairs l.pairs
