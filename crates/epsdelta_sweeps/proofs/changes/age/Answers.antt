use native.Mathlib.Omega.{arith}
use Rattle.epsdelta_sweeps.proofs.Noting.{fades}
use Rattle.epsdelta_sweeps.proofs.changes.age.Goals as goal

pub loop-x-preserved : goal.loop-x-preserved
loop-x-preserved c = fades _ _ c.loop-x.x-index (omega arith) c.loop-x.invariant

pub returns : goal.returns
returns c = let F = c.loop-x.invariant in (F.long, λ u h. F.faded u (omega arith))
