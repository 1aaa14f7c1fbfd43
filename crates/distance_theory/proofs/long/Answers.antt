-- Whether all are at least n is what the definition says.
use Rattle.std.proofs.Common.{arith, ◌∙◌}
use borrow.Author.Tests.{tests}
use lib.Dec.{leb}
use Rattle.std.proofs.lemmas.Iterator.{YieldsList-from_slice}
use Rattle.std.proofs.lemmas.Iterator.Search.{all_from_yields_List}
use Rattle.numbers.proofs.Loops.{list_all_is}
use Rattle.distance_theory.proofs.long.Goals as goal

pub returns : goal.returns
returns c =
    all_from_yields_List (leb c.args.n) _ _ _ c.all.ensures.ran (YieldsList-from_slice c.args.lengths.now cc) (λ x b q k. grind (arith, tests)) ∙ list_all_is (leb c.args.n) c.args.lengths.now
