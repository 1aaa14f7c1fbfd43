-- `check::refusal` meets its contract: the sizes first, then check by check (Refusing).
use mathlib.Core.Path.{sym, ◌∙◌}
use Rattle.numbers.proofs.Refuses.{turned_back_code}
use Rattle.transport.proofs.Refusing.{size_first, sized_roomy, refused_15, refused_16, refused_none, first_fails, second_fails, both}
use Rattle.transport.proofs.check.refusal.Goals as goal
use Rattle.transport.proofs.check.refusal.Goals.{then-not-masses_fit-via-then-not-masses_fit, then-not-masses_fit-via-else-not-masses_fit+then-not-costs_fit}

pub returns-in_err-size_refusal : goal.returns-in_err-size_refusal
returns-in_err-size_refusal c = turned_back_code c.from_residual.result _ _ c.from_residual.ensures.1 (size_first _ _ _ _ _ _ _ _ c.in_err-size_refusal.ensures)

pub costs_fit-requires : goal.costs_fit-requires
costs_fit-requires c =
    let P = c.args.plan.now in
    (sized_roomy c.args.of.now.left.now c.args.of.now.right.now c.args.of.now.costs.now P.rows.now P.columns.now P.masses.now (sym c.in_ok-size_refusal.ensures)).enough

pub returns-then-not-masses_fit : goal.returns-then-not-masses_fit
returns-then-not-masses_fit c =
    refused_15 _ _ _ _ _ _ _ c.in_ok-size_refusal.ensures (elim c.then-not-masses_fit.branch [
      | then-not-masses_fit-via-then-not-masses_fit w ↦ first_fails _ _ (sym c.masses_fit.ensures ∙ w.if-not-masses_fit.true)
      | then-not-masses_fit-via-else-not-masses_fit+then-not-costs_fit w ↦ second_fails _ _ (sym c.masses_fit.ensures ∙ w.if-not-masses_fit.false) (sym w.costs_fit.ensures ∙ w.if-not-costs_fit.true)
    ])

pub returns-then-uneven : goal.returns-then-uneven
returns-then-uneven c = refused_16 _ _ _ _ _ _ _ c.in_ok-size_refusal.ensures (both _ _ (sym c.masses_fit.ensures ∙ c.if-not-masses_fit.false) (sym c.costs_fit.ensures ∙ c.if-not-costs_fit.false)) (sym c.uneven.ensures ∙ c.if-uneven.true)

pub returns : goal.returns
returns c = refused_none _ _ _ _ _ _ _ c.in_ok-size_refusal.ensures (both _ _ (sym c.masses_fit.ensures ∙ c.if-not-masses_fit.false) (sym c.costs_fit.ensures ∙ c.if-not-costs_fit.false)) (sym c.uneven.ensures ∙ c.if-uneven.false)
