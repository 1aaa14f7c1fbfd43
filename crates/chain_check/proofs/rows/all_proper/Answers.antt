use Rattle.std.proofs.Common.{rules, refl, arith, ◌∙◌}
use borrow.Author.Tests.{tests}
use Rattle.std.proofs.lemmas.Iterator.{YieldsList-from_range, serves_from_Range}
use Rattle.std.proofs.lemmas.Iterator.Search.{all_from_yields_List}
use Rattle.chain_theory.specs.Columns.{entries}
use Rattle.chain_theory.specs.Lent.{of_chain}
use Rattle.chain_theory.specs.Check.{proper}
use Rattle.chain_check.proofs.Checks.{rows_all}
use Rattle.chain_check.proofs.rows.all_proper.Goals as goal

pub all-requires-clause-callable : goal.all-requires-clause-callable
all-requires-clause-callable c = serves_from_Range (λ x q k. search (rules, tests)) (λ x l u. search (rules, tests))

pub returns : goal.returns
returns c =
    let n = c.args.chain.now.shape.states in
    all_from_yields_List (λ s. proper (entries (of_chain c.args.chain.now) s)) _ _ _ c.all.ensures.ran (YieldsList-from_range 0 n n refl (omega arith)) (λ x b q k. grind (arith, tests))
    ∙ rows_all _ (entries (of_chain c.args.chain.now)) (λ s. refl) 0 n
