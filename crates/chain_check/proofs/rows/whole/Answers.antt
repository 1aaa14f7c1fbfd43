-- The sum is that of the numbers.
use mathlib.Core.Path.{ap, ◌∙◌}
use mathlib.Core.Bool.{not}
use lib.Ieee.{Float, lt}
use Rattle.numbers.specs.Real.{one, slack}
use Rattle.numbers.specs.Choice.{apart}
use Rattle.chain_check.proofs.rows.whole.Goals as goal

pub returns : goal.returns
returns c = ap (λ (x : Float). not (lt slack x)) (c.apart.ensures ∙ ap (λ (x : Float). apart x one) (c.value-sum.ensures ∙ c.sum.ensures))
