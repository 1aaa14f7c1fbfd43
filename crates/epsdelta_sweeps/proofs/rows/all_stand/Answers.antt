use borrow.Author.Tests.{tests}
use Rattle.std.proofs.Common.{rules, arith, refl, ◌∙◌}
use Rattle.std.proofs.lemmas.Iterator.{YieldsList-from_range}
use Rattle.std.proofs.lemmas.Iterator.Search.{all_from_yields_List}
use Rattle.flow_links.proofs.RowsRead.{row_stands, states_of}
use Rattle.epsdelta_sweeps.proofs.Ranges.{every_of_range}
use Rattle.epsdelta_sweeps.proofs.rows.all_stand.Goals as goal

pub returns : goal.returns
returns c =
    let a = c.args in
    all_from_yields_List (row_stands a.rows.now.starts.now a.rows.now.targets.now a.rows.now.probs.now) _ _ _ c.all.ensures.ran (YieldsList-from_range 0 (states_of a.rows.now) (states_of a.rows.now) refl (omega arith)) (λ x b q k. search (rules, tests)) ∙ every_of_range _ _
