-- The invariant: what is still to come, added to the total, gives the sum. A turn adds one mass more.
use mathlib.Core.Path.{◌≡◌}
use mathlib.Core.List.{map}
use lib.ListN.{drop}
use Rattle.numbers.specs.Real.{sum, sum_from}
use Rattle.distance_words.proofs.Even.{fitted_by}
use Rattle.distance_even.proofs.fitted_total.Given as goal

abbrev pub invariant-loop-q : goal.invariant-loop-q
invariant-loop-q l = sum_from l.total (drop l.q-index (map (fitted_by l.left l.right) l.qs)) ≡ sum (map (fitted_by l.left l.right) l.qs)
