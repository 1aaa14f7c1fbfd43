use Rattle.bisim_core.specs.Model.{model_refusal}
use Rattle.bisim_core.proofs.wlts.Wlts.check.Goals as goal

pub returns : goal.returns
unfolding model_refusal
returns c = c.check_with.ensures
