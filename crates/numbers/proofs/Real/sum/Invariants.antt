-- `Real::sum` meets its contract. The invariant: the total so far, with the items still to come added to it, is the sum of all.
use Rattle.std.proofs.Common.{◌≡◌, drop}
use Rattle.numbers.specs.Real.{sum_from, sum}
use Rattle.numbers.proofs.Real.sum.Given as goal

abbrev pub invariant-loop-x : goal.invariant-loop-x
invariant-loop-x l = sum_from l.total (drop l.x-index l.items) ≡ sum l.items
