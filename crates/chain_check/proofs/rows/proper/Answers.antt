use Rattle.std.proofs.Common.{arith}
use borrow.Author.Tests.{tests}
use Rattle.chain_check.proofs.Checks.{proper_is}
use Rattle.chain_check.proofs.rows.proper.Goals as goal

pub returns-then-all_probable : goal.returns-then-all_probable
returns-then-all_probable c = let e = proper_is _ _ c.requires in grind (arith, tests, e)

pub returns-else-all_probable : goal.returns-else-all_probable
returns-else-all_probable c = let e = proper_is _ _ c.requires in grind (arith, tests, e)
