use Rattle.std.proofs.Common.{refl, sym, ◌∙◌}
use mathlib.Core.Bool.{true≢false}
use lib.Ieee.{eq, ne}
use borrow.Author.Tests.{lt-ltb, le-ltb}
use Rattle.numbers.proofs.Bools.{and_second}
use Rattle.bisim_core.proofs.check.sound.Goals as goal
use Rattle.bisim_core.proofs.check.sound.Goals.{then-target-shape, else-target-shape}

pub returns-then-label-shape : goal.returns-then-label-shape
unfolding eq ne
returns-then-label-shape c = elim c.if-target-shape.branch [
  | then-target-shape w ↦ and_second _ _ _ (lt-ltb _ _ w.if-target-shape.true) (and_second _ _ _ (sym w.value-is ∙ c.if-label-shape.true) refl)
  | else-target-shape w ↦ absurd (true≢false (sym c.if-label-shape.true ∙ w.value-is ∙ le-ltb _ _ w.if-target-shape.false))
]
