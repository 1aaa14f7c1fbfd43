-- By the run at ε = 0, which leaves every byte zero (Runs).
use mathlib.Core.Path.{refl, ap, ◌∙◌}
use Rattle.std.specs.Prelude.{Ok}
use Rattle.numbers.specs.Real.{nought}
use Rattle.epsdelta_theory.proofs.MinEpsilon.{nought_valid}
use Rattle.min_epsilon.specs.Outcome.{alike}
use Rattle.min_epsilon.proofs.Runs.{value_is, not_refused, zero_still, zero_again, unrefused, allowed, below_one_nought, below_one_between}
use Rattle.min_epsilon.proofs.least.Search.below_one.Goals as goal

pub holds-requires : goal.holds-requires
holds-requires c = allowed c.args.self.now.sides.now c.args.self.now.rho nought c.args.relation.now c.args.relation.now c.requires refl nought_valid

pub returns-then-branch : goal.returns-then-branch
returns-then-branch c =
    let a = c.args in
    (ap Ok (below_one_nought (alike a.self.now.sides.now a.self.now.rho) _ (value_is c.in_ok-holds.ensures.0) c.if-branch.true), c.in_ok-holds.ensures.1)

pub bisect-requires-clause-unrefused : goal.bisect-requires-clause-unrefused
bisect-requires-clause-unrefused c = unrefused c.args.self.now.sides.now c.args.self.now.rho c.holds.new.relation c.args.relation.now c.requires c.in_ok-holds.ensures.1

pub bisect-requires-clause-cleared : goal.bisect-requires-clause-cleared
bisect-requires-clause-cleared c = zero_still c.holds.new.relation c.args.relation.now c.in_ok-holds.ensures.1

pub returns : goal.returns
returns c =
    let a = c.args in
    let h = c.in_ok-holds in
    let b = c.bisect in
    (b.ensures.0 ∙ ap Ok (below_one_between (alike a.self.now.sides.now a.self.now.rho) _ _ (value_is h.ensures.0) c.if-branch.false refl), zero_again b.new.relation c.holds.new.relation a.relation.now h.ensures.1 b.ensures.1)

pub returns-in_err-holds : goal.returns-in_err-holds
returns-in_err-holds c = absurd (not_refused c.in_err-holds.ensures.0)
