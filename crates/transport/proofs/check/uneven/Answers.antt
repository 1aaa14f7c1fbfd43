-- `check::uneven` meets its contract: its parts are the definition's.
use mathlib.Core.Path.{ap₂, ◌∙◌}
use Rattle.transport_theory.specs.Refusal.{unequal}
use lib.Ieee.{Float, binary64, mul, lt}
use Rattle.numbers.specs.Real.{slack}
use Rattle.transport.proofs.check.uneven.Goals as goal

pub returns : goal.returns
unfolding unequal
returns c = ap₂ (λ (x y : Float). lt (mul binary64 slack x) y) c.larger.ensures c.apart.ensures ∙ ap₂ unequal (c.value-ta.ensures ∙ c.sum.ensures) (c.value-tb.ensures ∙ c.sum-2.ensures)
