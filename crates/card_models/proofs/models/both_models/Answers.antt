-- By the cases of both models (Cases).
use Rattle.card_models.proofs.Cases.{same_code, both_refused}
use Rattle.card_models.proofs.models.both_models.Goals as goal

pub returns-in_err-earlier : goal.returns-in_err-earlier
returns-in_err-earlier c =
    let a = c.args in
    both_refused a.left a.right _ _ (same_code _ a.left _ c.map.ensures.cases) (same_code _ a.right _ c.map-2.ensures.cases) c.from_residual.result _ c.from_residual.ensures.1 c.in_err-earlier.ensures
