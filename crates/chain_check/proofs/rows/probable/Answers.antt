-- The second test is made only where the first holds.
use mathlib.Core.Path.{refl}
use Rattle.numbers.proofs.Bools.{and_second}
use Rattle.chain_check.proofs.rows.probable.Goals as goal

pub returns-then-p : goal.returns-then-p
returns-then-p c = and_second _ _ _ c.if-p.true refl
