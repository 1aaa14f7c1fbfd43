-- The invariant: the numbers passed are scaled, the rest as they were.
use Rattle.std.proofs.Common.{◌≡◌, map}
use Rattle.numbers.proofs.Over.{over}
use Rattle.chain_theory.specs.Chain.{scaled}
use Rattle.normalise.proofs.rescale.Given as goal

abbrev pub invariant-loop-x : goal.invariant-loop-x
invariant-loop-x l = l.list ≡ over (map (scaled l.least l.scale) l.initial.list) l.x-index l.initial.list
