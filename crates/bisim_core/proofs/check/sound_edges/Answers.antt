use Rattle.std.proofs.Common.{rules, refl, arith, ◌∙◌}
use borrow.Author.Tests.{tests}
use Rattle.std.proofs.lemmas.Iterator.{YieldsList-from_range}
use Rattle.std.proofs.lemmas.Iterator.Search.{all_from_yields_List}
use Rattle.numbers.proofs.Loops.{every_of_range}
use Rattle.bisim_core.specs.Data.{columns_of}
use Rattle.bisim_core.specs.Model.{sound, edge_at}
use Rattle.bisim_core.proofs.check.sound_edges.Goals as goal

pub returns : goal.returns
returns c =
    let m = c.args.model.now in
    all_from_yields_List (λ i. sound m.shape (edge_at (columns_of m) 0 i)) _ _ _ c.all.ensures.ran (YieldsList-from_range 0 m.shape.edges m.shape.edges refl (omega arith)) (λ x b q k. search (rules, tests)) ∙ every_of_range _ _
