use Rattle.std.proofs.Common.{rules, ◌∙◌}
use Rattle.std.proofs.lemmas.Iterator.{YieldsList-from_slice, YieldsList-from_take}
use Rattle.std.proofs.lemmas.Iterator.Search.{all_from_yields_List}
use borrow.Author.Tests.{tests}
use Rattle.numbers.proofs.Loops.{list_all_is}
use Rattle.bisim_core.specs.Model.{weighs}
use Rattle.build_theory.proofs.all_weigh.Goals as goal

pub returns : goal.returns
returns c =
    all_from_yields_List weighs _ _ _ c.all.ensures.ran (YieldsList-from_take c.args.draft.now.given (YieldsList-from_slice c.args.draft.now.weights.now cc) cc) (λ x b q k. search (rules, tests))
    ∙ list_all_is _ _
