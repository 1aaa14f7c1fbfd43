use mathlib.Core.Path.{◌∙◌}
use native.Mathlib.Omega.{arith}
use Rattle.flow_links.proofs.RowsRead.{states_of}
use Rattle.epsdelta_sweeps.specs.Leading.{FromTurn, ToSweepEnd}
use Rattle.epsdelta_sweeps.proofs.Resuming.{handed, moves_then}
use Rattle.epsdelta_sweeps.proofs.sweeps.sweep.Goals as goal

pub returns-in_err-struck : goal.returns-in_err-struck
returns-in_err-struck c =
    let a = c.args in
    let l = c.loop-s.invariant in
    (handed (ToSweepEnd (FromTurn a.terms.now a.memory.now a.at c.sweep_row.new.memory) (states_of a.terms.now.rows)) _ c.from_residual.ensures.1 (moves_then l.2 (omega arith) c.in_err-struck.ensures.0), c.sweep_row.ensures.1 ∙ l.3)

pub returns : goal.returns
returns c =
    let l = c.loop-s.invariant in
    let h = l.0 in
    ((c.loop-s.s, c.loop-s.t, c.loop-s-test.false, omega arith, l.2), l.3)
