use Rattle.std.proofs.Common.{◌∙◌, sym}
use Rattle.replay_text.proofs.Words.{next_digits_on, next_digits_end}
use Rattle.replay_text.proofs.text.Reader.digits.Goals as goal

pub loop-b-preserved : goal.loop-b-preserved
loop-b-preserved c =
    let i = c.loop-b.invariant in
    let read = c.found-x.ensures.read in
    let lasts = c.found-x.ensures.lasts in (
      (λ h. lasts.0 (i.0.0 h), λ h. lasts.1 (i.0.1 h), lasts.2 ∙ i.0.2),
      read.0 ∙ i.1,
      next_digits_on c.args.base _ _ _ c.args.word.now c.loop-b.b-index c.loop-b-test.true c.with_digit.ensures read.1 read.2 ∙ i.2,
    )

pub returns-clause-read : goal.returns-clause-read
returns-clause-read c =
    let i = c.loop-b.invariant in
    (sym (next_digits_end c.args.base _ c.args.word.now c.loop-b.b-index c.loop-b-test.false) ∙ i.2, i.1)
