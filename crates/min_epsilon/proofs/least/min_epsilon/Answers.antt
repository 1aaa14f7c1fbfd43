-- By the run at ε = 1 (Answering); the claim is epsdelta_theory's law of every search.
use mathlib.Core.Path.{◌∙◌}
use Rattle.bisimilar.proofs.Judging.{handed_on}
use Rattle.min_epsilon.proofs.Runs.{value_is, not_refused}
use Rattle.min_epsilon.proofs.Answering.{next_allowed, ends_refused, ends_absent, ends_at}
use Rattle.min_epsilon.proofs.least.min_epsilon.Goals as goal

pub returns-in_err-epsdelta_bisimilar-clause-relation_after : goal.returns-in_err-epsdelta_bisimilar-clause-relation_after
returns-in_err-epsdelta_bisimilar-clause-relation_after c =
    let a = c.args in
    let out = c.epsdelta_bisimilar.new.relation in
    handed_on c.from_residual.result _ out c.from_residual.ensures.1 ∙ ends_refused a.sides.now a.rho a.relation.now out _ c.in_err-epsdelta_bisimilar.ensures

pub below_one-requires : goal.below_one-requires
below_one-requires c = next_allowed c.args.sides.now c.args.rho c.args.relation.now c.epsdelta_bisimilar.new.relation _ c.in_ok-epsdelta_bisimilar.ensures

pub returns-then-not-branch-clause-relation_after : goal.returns-then-not-branch-clause-relation_after
returns-then-not-branch-clause-relation_after c = ends_absent c.args.sides.now c.args.rho c.args.relation.now c.epsdelta_bisimilar.new.relation _ c.in_ok-epsdelta_bisimilar.ensures c.if-not-branch.true

pub returns-clause-relation_after : goal.returns-clause-relation_after
returns-clause-relation_after c =
    ends_at c.args.sides.now c.args.rho c.args.relation.now c.epsdelta_bisimilar.new.relation _ c.in_ok-epsdelta_bisimilar.ensures _ c.below_one.new.relation c.if-not-branch.false (value_is c.in_ok-below_one.ensures.0) c.in_ok-below_one.ensures.1

pub returns-in_err-below_one-clause-relation_after : goal.returns-in_err-below_one-clause-relation_after
returns-in_err-below_one-clause-relation_after c = absurd (not_refused c.in_err-below_one.ensures.0)
