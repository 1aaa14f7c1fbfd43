use native.Mathlib.Nat.{le_refl}
use Rattle.flow.proofs.Running.{entered_on, entered_all}
use Rattle.flow.proofs.network.unpack.Goals as goal

pub loop-i-preserved : goal.loop-i-preserved
loop-i-preserved c = entered_on c.args.links.now _ c.args.heads.now c.args.caps.now c.args.costs.now (le_refl _) c.requires.0 c.requires.1 c.requires.2 c.loop-i.invariant c.loop-i-test.true

pub returns : goal.returns
returns c = entered_all c.args.links.now _ c.args.heads.now c.args.caps.now c.args.costs.now (le_refl _) c.requires.0 c.requires.1 c.requires.2 c.loop-i.invariant c.loop-i-test.false
