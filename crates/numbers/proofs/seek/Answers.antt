use Rattle.std.proofs.Common.{eqb, rules, tests}
use Rattle.std.proofs.lemmas.Iterator.{YieldsList-from_slice}
use Rattle.std.proofs.lemmas.Iterator.Search.{position_from_yields_List}
use Rattle.numbers.proofs.Loops.{position_is}
use Rattle.numbers.proofs.seek.Goals as goal

pub returns : goal.returns
returns c =
    let p = position_from_yields_List (λ y. eqb y c.args.x) _ _ _ c.position.ensures.ran (YieldsList-from_slice c.args.list.now cc) (λ x b q k. search (rules, tests)) in
    search (rules, p, position_is c.args.x c.args.list.now)
