use Rattle.numbers.proofs.Refuses.{turned_back, answered_ok}
use Rattle.bisim_core.specs.Model as model
use Rattle.bisim_reader.proofs.reader.label.Goals as goal

pub returns-in_err-check_with : goal.returns-in_err-check_with
unfolding model.label
returns-in_err-check_with c = turned_back c.from_residual.result _ _ _ c.from_residual.ensures.1 c.in_err-check_with.ensures

pub returns : goal.returns
unfolding model.label
returns c = answered_ok _ _ c.in_ok-check_with.ensures
