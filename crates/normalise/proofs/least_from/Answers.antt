-- A fold by `smaller`.
use Rattle.std.proofs.Common.{arith, ◌∙◌}
use borrow.Author.Tests.{tests}
use Rattle.std.proofs.lemmas.Iterator.{YieldsList-from_slice}
use Rattle.std.proofs.lemmas.Iterator.Consumers.{fold_from_yields_List}
use Rattle.numbers.specs.Choice.{smaller}
use Rattle.normalise.proofs.Scaling.{least_is}
use Rattle.normalise.proofs.least_from.Goals as goal

pub returns : goal.returns
returns c = fold_from_yields_List _ smaller _ _ c.fold.ensures.ran (YieldsList-from_slice c.args.list.now cc) (λ a x b q k. grind (arith, tests)) ∙ least_is c.args.x c.args.list.now
