-- `code` ensures the number, `put_flow` the numbers for the answer, and `flow_rows` the answer and the capacities; every run keeps what is claimed.
use mathlib.Core.Path.{ap, ◌∙◌}
use Rattle.flow_core.specs.Outcome.{Outcome}
use Prim.Native.Nat.{ℕ}
use Rattle.replies.specs.Flows.{told, of_flow}
use Rattle.flow_core.proofs.Theorem.{every_run}
use Rattle.exports.proofs.networks.tanqesha_max_flow_rows.Goals as goal

pub returns : goal.returns
returns c = let a = c.args in let p = c.put_flow.new in record {
  pushes_after = ap (λ (k : ℕ). told k p.flow p.phases p.pushes) c.code.ensures ∙ c.put_flow.ensures ∙ ap (λ (e : Outcome). of_flow e.answer a.flow.now a.phases.now a.pushes.now) c.flow_rows-answer.ensures;
  caps_after = ap (λ (e : Outcome). e.caps) c.flow_rows-answer.ensures;
  claimed = every_run a.heads.now a.caps.now a.costs.now a.starts.now a.list.now a.nodes a.source a.sink;
}
