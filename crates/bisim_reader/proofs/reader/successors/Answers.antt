use Rattle.std.proofs.Common.{ℕ, Ok, ap₂, ◌∙◌}
use Rattle.numbers.proofs.Refuses.{turned_back, answered_ok}
use Rattle.bisim_core.specs.Model.{successors_of}
use Rattle.bisim_reader.proofs.reader.successors.Goals as goal

pub returns-in_err-check_with : goal.returns-in_err-check_with
unfolding successors_of
returns-in_err-check_with c = turned_back c.from_residual.result _ _ _ c.from_residual.ensures.1 c.in_err-check_with.ensures

pub returns : goal.returns
unfolding successors_of
returns c = ap₂ (λ (from to : ℕ). Ok (from, to)) c.row-edges.ensures.0 c.row-edges.ensures.1 ∙ answered_ok _ _ c.in_ok-check_with.ensures
