use Rattle.std.proofs.Common.{ap, refl, ◌∙◌}
use Rattle.replay_text.specs.Cases.{first_case}
use Rattle.replay_text.proofs.Cuts.{one_more, no_more}
use Rattle.replay_text.proofs.cases.starts.Goals as goal

pub loop-at-preserved : goal.loop-at-preserved
loop-at-preserved c =
    let i = c.loop-at.invariant in
    let next = one_more c.args.text.now _ _ c.loop-at.at c.first.result _ i.0 c.loop-at-test.true c.in_ok-push.ensures.items (c.first.ensures.size ∙ ap first_case c.behind.ensures) refl in
    (next.0, next.1 ∙ i.1)

pub returns : goal.returns
returns c = no_more c.args.text.now _ _ c.loop-at.at c.loop-at-test.false c.loop-at.invariant.1
