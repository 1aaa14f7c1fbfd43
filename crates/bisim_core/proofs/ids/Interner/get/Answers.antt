use Rattle.std.proofs.Common.{rules, refl, ap, ◌∙◌, take, Ok}
use borrow.Author.Tests.{tests}
use Rattle.numbers.proofs.Refuses.{turned_back}
use Rattle.bisim_core.specs.Ids.{get}
use Rattle.bisim_core.proofs.Interning.{got, id_at}
use Rattle.bisim_core.proofs.ids.Interner.get.Goals as goal

pub returns-in_err-check : goal.returns-in_err-check
unfolding get
returns-in_err-check c = turned_back c.from_residual.result _ _ _ c.from_residual.ensures.1 c.in_err-check.ensures

pub returns : goal.returns
returns c =
    let l = take c.args.self.now.count c.args.self.now.labels.now in
    ap Ok (id_at c.args.value l _ _ c.map.ensures.cases (λ i y q. search (rules, tests)) c.place.ensures) ∙ got _ _ _ _ c.in_ok-check.ensures refl
