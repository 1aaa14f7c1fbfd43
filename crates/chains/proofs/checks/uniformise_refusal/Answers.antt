-- By the cases of the checks, in their order: a place behind a check knows that it passed.
use mathlib.Core.Path.{refl, sym, ap, ◌∙◌}
use mathlib.Core.Bool.{not}
use Rattle.numbers.proofs.Refuses.{number_positive, turned_back_code}
use Rattle.chains.proofs.Answers.{refused_model, refused_7, refused_8, refused_11, refused_12, refused_none}
use Rattle.chains.proofs.checks.uniformise_refusal.Goals as goal

pub returns-in_err-check : goal.returns-in_err-check
returns-in_err-check c =
    turned_back_code c.from_residual.result _ _ c.from_residual.ensures.1
    (refused_model c.args.model.now c.args.rate c.args.observations.now c.args.store.now c.in_err-check.ensures (number_positive _))

pub returns-then-cramped : goal.returns-then-cramped
returns-then-cramped c =
    refused_7 c.args.model.now c.args.rate c.args.observations.now c.args.store.now c.in_ok-check.ensures refl (sym c.cramped.ensures ∙ c.if-cramped.true)

pub returns-then-is_none : goal.returns-then-is_none
returns-then-is_none c =
    refused_8 c.args.model.now c.args.rate c.args.observations.now c.args.store.now c.in_ok-check.ensures refl (sym c.cramped.ensures ∙ c.if-cramped.false) (ap not (c.is_none.ensures ∙ ap not c.if-is_none.true))

pub returns-then-not-hold : goal.returns-then-not-hold
returns-then-not-hold c =
    refused_11 c.args.model.now c.args.rate c.args.observations.now c.args.store.now c.in_ok-check.ensures refl (sym c.cramped.ensures ∙ c.if-cramped.false) (ap not (c.is_none.ensures ∙ ap not c.if-is_none.false))
    (ap not (sym c.hold.ensures ∙ c.if-not-hold.true))

pub returns-then-not-hold_all : goal.returns-then-not-hold_all
returns-then-not-hold_all c =
    refused_12 c.args.model.now c.args.rate c.args.observations.now c.args.store.now c.in_ok-check.ensures refl (sym c.cramped.ensures ∙ c.if-cramped.false) (ap not (c.is_none.ensures ∙ ap not c.if-is_none.false))
    (ap not (sym c.hold.ensures ∙ c.if-not-hold.false)) (ap not (sym c.hold_all.ensures ∙ c.if-not-hold_all.true))

pub returns : goal.returns
returns c =
    refused_none c.args.model.now c.args.rate c.args.observations.now c.args.store.now c.in_ok-check.ensures refl (sym c.cramped.ensures ∙ c.if-cramped.false) (ap not (c.is_none.ensures ∙ ap not c.if-is_none.false))
    (ap not (sym c.hold.ensures ∙ c.if-not-hold.false)) (ap not (sym c.hold_all.ensures ∙ c.if-not-hold_all.false))
