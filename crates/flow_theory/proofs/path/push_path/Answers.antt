use mathlib.Core.Path.{sym, ◌∙◌}
use native.Mathlib.Omega.{arith}
use Rattle.std.proofs.lemmas.List.{set_past}
use Rattle.flow_theory.proofs.Pushing.{pushed_on, push_ends}
use Rattle.flow_theory.proofs.path.push_path.Goals as goal
use Rattle.flow_theory.proofs.path.push_path.Goals.{then-e-caps, else-e-caps, then-back-caps, else-back-caps}

pub loop-e-preserved : goal.loop-e-preserved
loop-e-preserved c =
    let on = pushed_on c.loop-e.invariant c.loop-e-test.true c.reverse-back.result c.if-e-caps.caps c.if-back-caps.caps c.reverse-back.ensures
    (elim c.if-e-caps.branch [
      | then-e-caps w ↦ w.caps-is
      | else-e-caps w ↦ let past = w.if-e-caps.false in w.caps-is ∙ sym (set_past _ _ _ (omega arith))
    ]) in
    on (elim c.if-back-caps.branch [
      | then-back-caps w ↦ w.caps-is
      | else-back-caps w ↦ let past = w.if-back-caps.false in w.caps-is ∙ sym (set_past _ _ _ (omega arith))
    ])

pub returns : goal.returns
returns c = push_ends c.loop-e.invariant c.loop-e-test.false
