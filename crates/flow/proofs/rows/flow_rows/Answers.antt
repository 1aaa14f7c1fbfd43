-- `rows::flow_rows` meets its contract: the rows are cut to the places in use (Filling).
use native.Mathlib.Omega.{arith}
use Rattle.flow.proofs.Filling.{fits_of, run_cut}
use Rattle.flow.proofs.rows.flow_rows.Goals as goal

pub returns : goal.returns
returns c = run_cut c.args.net.now c.args.heads.now c.args.caps.now c.args.costs.now c.args.n c.args.nodes (omega arith) (omega arith) (omega arith) c.args.ends.source c.args.ends.sink _ c.fill.new.net (fits_of _ c.in_ok-fill.ensures.fits) c.fill.ensures.filled c.max_flow_in.ensures
