use native.Mathlib.Omega.{arith}
use Rattle.epsdelta_sweeps.proofs.Marking.{bytes_next, bytes_done}
use Rattle.epsdelta_sweeps.proofs.marks.marks.Goals as goal

pub loop-k-preserved : goal.loop-k-preserved
loop-k-preserved c =
    let l = c.loop-k in
    λ Q M. bytes_next M c.args.relation.now c.requires.1 l.relation l.k c.byte_at.result (omega arith) (l.invariant Q M) (c.byte_at.ensures Q M)

pub returns : goal.returns
returns c =
    let l = c.loop-k in
    λ Q M. bytes_done M c.args.relation.now c.requires.1 l.relation l.k (omega arith) (l.invariant Q M)
