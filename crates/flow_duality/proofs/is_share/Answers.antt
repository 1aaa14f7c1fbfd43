-- `flow_duality::is_share` meets its contract: the second test is asked only where the first holds.
use mathlib.Core.Path.{refl}
use lib.Ieee.{lt, le}
use Rattle.numbers.specs.Real.{nought, one}
use Rattle.numbers.proofs.Bools.{and_first, and_second}
use Rattle.flow_duality.proofs.is_share.Goals as goal

pub returns-then-rate : goal.returns-then-rate
returns-then-rate c = let w = c.args.rate in and_second (lt nought w) (le w one) (le w one) c.if-rate.true refl

pub returns-else-rate : goal.returns-else-rate
returns-else-rate c = let w = c.args.rate in and_first (lt nought w) (le w one) c.if-rate.false
