-- `code` and `put` ensure the number and the reference for the answer, and `common_rate` the answer.
use Rattle.std.proofs.Common.{◌≡◌, ap, ◌∙◌, rules}
use Rattle.bisim_core.specs.Data.{columns}
use Rattle.std.specs.Prelude.{Result}
use Prim.Native.Nat.{ℕ}
use lib.Ieee.{Float}
use Rattle.numbers.specs.Refuse.{numbered}
use Rattle.chains.specs.Outcome.{rated}
use Rattle.replies.specs.Answers.{number_of, initial, shape}
use Rattle.replies.specs.Chains.{told, of_rated}
use Rattle.exports.proofs.model_chains.tanqesha_common_rate.Goals as goal

pub returns : goal.returns
returns c =
    let a = c.args in
    let answer : numbered c.common_rate-answer.result ≡ rated (shape a.left_states a.left_edges a.left_labels (initial a.left_present a.left_start)) (columns a.left_label_values.now a.left_offsets.now a.left_edge_labels.now a.left_edge_targets.now a.left_edge_weights.now) (shape a.right_states a.right_edges a.right_labels (initial a.right_present a.right_start)) (columns a.right_label_values.now a.right_offsets.now a.right_edge_labels.now a.right_edge_targets.now a.right_edge_weights.now) = search rules in
    ap (λ (k : ℕ). told k c.put.new.place) (c.code.ensures ∙ c.put.ensures.number) ∙ ap (λ (r : Float). told (number_of (numbered c.common_rate-answer.result)) r) c.put.ensures.place ∙ ap (λ (x : Result Float ℕ). of_rated x a.rate.now) answer
