-- `position` finds the first empty line, or none.
use Rattle.std.proofs.Common.{rules, tests}
use lib.ListN.{length}
use Rattle.std.proofs.lemmas.Iterator.{YieldsList-from_range}
use Rattle.std.proofs.lemmas.Iterator.Search.{position_from_yields_List}
use Rattle.replay_text.specs.Cases.{empty_at}
use Rattle.replay_text.proofs.Cuts.{first_found}
use Rattle.replay_text.proofs.cases.first.Goals as goal

pub returns-clause-size : goal.returns-clause-size
returns-clause-size c =
    let t = c.args.text.now in
    first_found t _ _ c.unwrap_or.ensures (position_from_yields_List (empty_at t) _ _ _ c.position.ensures.ran (YieldsList-from_range 0 (length t) (length t) (search rules) (search rules)) (λ x b q k. search (rules, tests)))
