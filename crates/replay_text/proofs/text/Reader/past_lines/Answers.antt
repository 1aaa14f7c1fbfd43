use Rattle.std.proofs.Common.{◌≡◌, ◌∙◌, sym, ◌-◌, ◌+◌, suc}
use native.Mathlib.Omega.{arith}
use Rattle.replay_text.proofs.Cuts.{one_line, no_line, last_line}
use Rattle.replay_text.proofs.text.Reader.past_lines.Goals as goal

pub loop-preserved : goal.loop-preserved
loop-preserved c =
    let i = c.loop.invariant in
    let kept = c.past_line.ensures.kept in
    let turn : 1000000 - c.loop.counter ≡ suc (1000000 - (c.loop.counter + 1)) = omega (arith, c.loop-test.true) in (
      (kept.0 ∙ i.0.0, kept.1 ∙ i.0.1, kept.2 ∙ i.0.2),
      one_line _ _ c.loop.self.rest.now c.past_line.new.self.rest.now turn (sym c.within_line.ensures ∙ c.if-not-within_line.false) c.past_line.ensures.read ∙ i.1,
    )

pub returns-then-not-within_line-clause-read : goal.returns-then-not-within_line-clause-read
returns-then-not-within_line-clause-read c = sym (no_line (1000000 - c.loop.counter) c.loop.self.rest.now (sym c.within_line.ensures ∙ c.if-not-within_line.true)) ∙ c.loop.invariant.1

pub returns-clause-read : goal.returns-clause-read
returns-clause-read c =
    let done : 1000000 - c.loop.counter ≡ 0 = omega (arith, c.loop-test.false) in
    sym (last_line _ c.loop.self.rest.now done) ∙ c.loop.invariant.1
