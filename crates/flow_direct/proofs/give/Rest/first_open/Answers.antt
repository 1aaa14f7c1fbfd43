-- `give::Rest::first_open` meets its contract: `find` over the targets from `from` on.
use Rattle.std.proofs.Common.{rules, tests, get_or, true, false, ◌≡◌}
use lib.Ieee.{lt, nan}
use Rattle.numbers.specs.Real.{eps}
use Rattle.std.proofs.lemmas.Iterator.{first_from_Range}
use Rattle.flow_direct.proofs.Finding.{shut_to}
use Rattle.flow_direct.proofs.give.Rest.first_open.Goals as goal

pub returns : goal.returns
returns c =
    let first = first_from_Range _ _ _ c.find.result (λ k. lt eps (get_or c.args.self.now.rights.now k nan) ≡ true) (λ k. lt eps (get_or c.args.self.now.rights.now k nan) ≡ false) c.find.ensures.ran (λ x q k. search (rules, tests)) (λ x q k. search (rules, tests)) in
    rw (c.unwrap_or.ensures) (shut_to _ c.requires c.find.result first)
