-- `Real::is_valid` meets its contract: the second test is asked only where the first holds, and `infinity` returns what the definition compares with.
use mathlib.Core.Path.{ap}
use mathlib.Core.Bool.{false}
use lib.Ieee.{lt, le, inf}
use Rattle.numbers.specs.Real.{nought}
use Rattle.numbers.proofs.Bools.{and_first, and_second}
use Rattle.numbers.proofs.Real.is_valid.Goals as goal

pub returns-then-self : goal.returns-then-self
returns-then-self c =
    let w = c.args.self.0 in
    and_second (le nought w) (lt w (inf false)) (lt w c.infinity.result) c.if-self.true (ap (lt w) c.infinity.ensures)

pub returns-else-self : goal.returns-else-self
returns-else-self c = let w = c.args.self.0 in and_first (le nought w) (lt w (inf false)) c.if-self.false
