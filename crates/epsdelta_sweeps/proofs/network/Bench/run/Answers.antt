use mathlib.Core.Path.{◌∙◌}
use native.Mathlib.Omega.{arith}
use Rattle.epsdelta_sweeps.proofs.Resuming.{moves_then}
use Rattle.epsdelta_sweeps.proofs.network.Bench.run.Goals as goal

pub loop-next-preserved : goal.loop-next-preserved
loop-next-preserved c = let l = c.loop-next.invariant in (moves_then l.0 (omega arith) c.in-Err.ensures.0, c.resume.ensures.1 ∙ l.1)

pub returns : goal.returns
returns c =
    let l = c.loop-next.invariant in
    let P = c.in_default.ensures.0 in
    ((P.0, P.1, P.2, P.3, moves_then l.0 (omega arith) P.4), c.resume.ensures.1 ∙ l.1)
