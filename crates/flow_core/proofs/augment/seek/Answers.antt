use mathlib.Core.Logic.{inl, inr}
use lib.ListN.{get_or}
use Rattle.flow_theory.proofs.Scanning.{residual_at}
use Rattle.flow_theory.proofs.Seeking.{seek_on, seek_found}
use Rattle.flow_core.proofs.augment.seek.Goals as goal
use Rattle.flow_core.proofs.augment.seek.Goals.{else-caps-e-via-then-caps-e+else-phase-v, else-caps-e-via-else-caps-e}

pub returns-then-phase-v : goal.returns-then-phase-v
returns-then-phase-v c = (c.loop-k-test.true, seek_found c.loop-k.invariant (residual_at c.args.caps.now (get_or c.args.row.now c.loop-k.k 0) _ c.if-caps-e.true, c.if-phase-v.true))

pub loop-k-preserved : goal.loop-k-preserved
loop-k-preserved c =
    seek_on c.loop-k.invariant c.loop-k-test.true (elim c.else-caps-e.branch [
      | else-caps-e-via-then-caps-e+else-phase-v w ↦ inr w.if-phase-v.false
      | else-caps-e-via-else-caps-e w ↦ inl (residual_at c.args.caps.now (get_or c.args.row.now c.loop-k.k 0) _ w.if-caps-e.false)
    ])
