use Rattle.std.proofs.Common.{refl, ◌∙◌, arith}
use Rattle.numbers.specs.Real.{sum}
use Rattle.numbers.proofs.Sums.{sum_next, sum_end}
use Rattle.numbers.proofs.Real.sum.Goals as goal

pub loop-x-init : goal.loop-x-init
unfolding sum
loop-x-init c = refl

pub loop-x-preserved : goal.loop-x-preserved
loop-x-preserved c = sum_next c.loop-x.total c.args.items.now c.loop-x.x-index c.loop-x-test.true ∙ c.loop-x.invariant

pub returns : goal.returns
returns c = sum_end c.loop-x.total c.args.items.now c.loop-x.x-index (omega arith) ∙ c.loop-x.invariant
