-- The second count is looked at only where the first passes.
use mathlib.Core.Path.{refl}
use borrow.Author.Tests.{lt-ltb, le-ltb}
use Rattle.numbers.proofs.Bools.{or_first}
use Rattle.numbers.proofs.Refuses.{skip}
use Rattle.distance_theory.proofs.excessive.Goals as goal

pub returns-then-options-gt64 : goal.returns-then-options-gt64
returns-then-options-gt64 c = or_first _ _ (lt-ltb _ _ c.if-options-gt64.true)

pub returns-else-options-gt64 : goal.returns-else-options-gt64
returns-else-options-gt64 c = skip _ _ _ (le-ltb _ _ c.if-options-gt64.false) refl
