use Rattle.std.proofs.Common.{arith, ◌∙◌}
use borrow.Author.Tests.{tests}
use Rattle.std.proofs.lemmas.Iterator.{YieldsList-from_slice}
use Rattle.std.proofs.lemmas.Iterator.Search.{all_from_yields_List}
use Rattle.numbers.proofs.Loops.{list_all_is}
use Rattle.numbers.specs.Bounds.{within}
use Rattle.numbers.proofs.bounds.Bounds.hold_all.Goals as goal

pub returns : goal.returns
returns c =
    let t = within c.args.self.least c.args.self.greatest in
    all_from_yields_List t _ _ _ c.all.ensures.ran (YieldsList-from_slice c.args.list.now cc) (λ x b q k. grind (arith, tests)) ∙ list_all_is t _
