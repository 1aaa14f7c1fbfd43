-- `code` and `put` ensure the number and the reference for the answer, and `report` the answer and the store.
use mathlib.Core.Path.{ap, ◌∙◌}
use Prim.Native.Nat.{ℕ}
use Rattle.std.specs.Prelude.{Result, [], ◌∷◌}
use Rattle.numbers.specs.Refuse.{numbered}
use Rattle.replies.specs.Answers.{number_of}
use Rattle.replies.specs.Texts.{of_text}
use Rattle.exports.proofs.cards.tanqesha_report.Goals as goal

pub returns : goal.returns
returns c =
    let x = c.args.written.now in
    let n = number_of (numbered c.report-answer.result) in
    record { written_after = ap (λ (k : ℕ). k ∷ c.put.new.place ∷ []) (c.code.ensures ∙ c.put.ensures.number) ∙ ap (λ (w : ℕ). n ∷ w ∷ []) c.put.ensures.place ∙ ap (λ (t : Result ℕ ℕ). of_text t x) c.report-answer.ensures.answers; out_after = c.report-answer.ensures.leaves }
