use Rattle.std.proofs.Common.{rules, ◌≡◌, sym, ◌∙◌, ◌+◌, drop, None}
use Rattle.replay_text.proofs.Words.{digits_stop, digits_next, digits_end}
use Rattle.replay_text.proofs.whole_words.parsed.Goals as goal

pub returns-in_err-x : goal.returns-in_err-x
returns-in_err-x c =
    let e : c.from_residual.result ≡ None = search rules in
    e ∙ sym (digits_stop c.args.base (drop (c.loop-b.b-index + 1) c.args.bytes.now)) ∙ digits_next c.args.base _ _ c.args.bytes.now c.loop-b.b-index c.loop-b-test.true c.in_err-x.ensures ∙ c.loop-b.invariant

pub loop-b-preserved : goal.loop-b-preserved
loop-b-preserved c = digits_next c.args.base _ _ c.args.bytes.now c.loop-b.b-index c.loop-b-test.true c.in_ok-x.ensures ∙ c.loop-b.invariant

pub returns : goal.returns
returns c = sym (digits_end c.args.base _ c.args.bytes.now c.loop-b.b-index c.loop-b-test.false) ∙ c.loop-b.invariant
