-- `find` over the states from t on.
use Rattle.std.proofs.Common.{rules, ◌≡◌, ◌+◌, ◌*◌, ℕ, true, false}
use borrow.Author.Tests.{tests}
use Rattle.std.proofs.lemmas.Iterator.{first_from_Range}
use Rattle.numbers.specs.Bits.{bit_at}
use Rattle.epsdelta_sweeps.specs.Place.{count}
use Rattle.epsdelta_sweeps.proofs.changes.Memory.next.Goals as goal

pub returns : goal.returns
returns c =
    let m = c.args.self.now in
    first_from_Range _ _ _ c.find.result (λ k. bit_at m.relation.now (c.args.s * count m + k) ≡ true) (λ k. bit_at m.relation.now (c.args.s * count m + k) ≡ false) c.find.ensures.ran (λ x q k. search (rules, tests)) (λ x q k. search (rules, tests))
