-- `is_sorted_by` looks at each target and the next.
use Rattle.std.proofs.Common.{arith}
use borrow.Author.Tests.{tests}
use lib.Dec.{ltb}
use Rattle.std.proofs.lemmas.List.Sorted.{answers_always}
use Rattle.chain_check.proofs.Ascents.{ascends_is}
use Rattle.chain_check.proofs.rows.ascends.Goals as goal

pub returns : goal.returns
returns c = ascends_is c.args.targets.now _ (c.is_sorted_by.ensures.cases ltb (answers_always _ _ _ (λ f a r q k. grind (arith, tests))))
