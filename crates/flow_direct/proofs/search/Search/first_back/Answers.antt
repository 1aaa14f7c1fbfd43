-- `search::Search::first_back` meets its contract: the first that passes.
use Rattle.std.proofs.Common.{rules, tests}
use Rattle.flow_direct.proofs.Finding.{found_by}
use Rattle.flow_direct.proofs.search.Search.first_back.Goals as goal

pub returns : goal.returns
returns c = found_by _ _ c.first.result _ _ c.first.ensures (λ i h y. search (rules, tests)) (λ i h y p. search (rules, tests))
