-- The rows can be read where check 4 passed.
use mathlib.Core.Path.{sym, ap, ◌∙◌}
use mathlib.Core.Bool.{not}
use borrow.Author.Tests.{le-ltb}
use Rattle.numbers.proofs.Refuses.{check_hit, check_skip}
use Rattle.chain_theory.specs.Check.{chain_refusal}
use Rattle.chain_theory.specs.Lent.{of_chain}
use Rattle.chain_theory.proofs.Shaped.{shaped}
use Rattle.chain_check.proofs.check.chain_refusal.Goals as goal

pub returns-then-not-hold_all : goal.returns-then-not-hold_all
unfolding chain_refusal
returns-then-not-hold_all c =
    sym (check_skip 4 _ _ _ (sym c.misshapen.ensures ∙ c.if-misshapen.false) (check_skip 7 _ _ _ (le-ltb _ _ c.if-chain-states.false) (check_hit 12 _ _ (ap not (sym c.hold_all.ensures ∙ c.if-not-hold_all.true)))))

pub all_proper-requires : goal.all_proper-requires
all_proper-requires c = (shaped c.args.chain.now.shape (of_chain c.args.chain.now) (sym c.misshapen.ensures ∙ c.if-misshapen.false)).rows
