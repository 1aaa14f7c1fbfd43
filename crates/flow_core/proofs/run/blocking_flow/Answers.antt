use native.Mathlib.Omega.{arith}
use Rattle.flow_theory.proofs.Blocking.{phase_begins, phase_ends, phase_again, push_room}
use Rattle.flow_core.proofs.run.blocking_flow.Goals as goal

pub loop-path-init : goal.loop-path-init
loop-path-init c = phase_begins c.requires

pub returns-then-x : goal.returns-then-x
returns-then-x c = phase_ends c.requires c.loop-path.invariant c.augment-x.ensures c.if-x.true

pub loop-path-smaller : goal.loop-path-smaller
loop-path-smaller c = let r = push_room c.requires c.loop-path.invariant c.augment-x.ensures c.if-x.false in omega (arith, r)

pub loop-path-preserved : goal.loop-path-preserved
loop-path-preserved c = phase_again c.requires c.loop-path.invariant c.augment-x.ensures c.if-x.false
