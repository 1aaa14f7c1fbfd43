-- `code` ensures the number, `put_flow` the numbers for the answer, and `max_flow` the answer, the network and what is claimed of the run.
use mathlib.Core.Path.{ap, ◌∙◌}
use Rattle.flow.specs.Network.{Outcome}
use Prim.Native.Nat.{ℕ}
use Rattle.replies.specs.Flows.{told, of_flow}
use Rattle.exports.proofs.networks.tanqesha_max_flow.Goals as goal

pub returns : goal.returns
returns c =
    let a = c.args in
    let p = c.put_flow.new in
    let e = c.max_flow-answer.ensures in
    (ap (λ (k : ℕ). told k p.flow p.phases p.pushes) c.code.ensures ∙ c.put_flow.ensures ∙ ap (λ (x : Outcome). of_flow x.answer a.flow.now a.phases.now a.pushes.now) e.0, ap (λ (x : Outcome). x.network) e.0, e.1)
