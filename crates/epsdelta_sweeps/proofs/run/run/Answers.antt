use native.Mathlib.Omega.{arith}
use Rattle.epsdelta_sweeps.proofs.run.run.Goals as goal

pub run_in-requires-2 : goal.run_in-requires-2
run_in-requires-2 c =
    let p = c.requires in
    let f = p.rows_fit.0.few in
    record { room = (omega arith, omega arith); rows_fit = p.rows_fit; relation_value = p.relation_value }
