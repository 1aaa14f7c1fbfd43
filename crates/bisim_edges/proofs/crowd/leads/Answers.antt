-- By cases on the weight.
use lib.Dec.{eqb}
use lib.Ieee.{eq, ne}
use Rattle.numbers.specs.Real.{is_zero}
use Rattle.bisim_edges.proofs.Crowds.{leads_not, leads_if}
use Rattle.bisim_edges.proofs.crowd.leads.Goals as goal

pub returns-then-w : goal.returns-then-w
unfolding eq ne
returns-then-w c = leads_if (is_zero c.args.w) (eqb c.args.t c.args.s) c.if-w.true

pub returns-else-w : goal.returns-else-w
unfolding eq ne
returns-else-w c = leads_not (is_zero c.args.w) (eqb c.args.t c.args.s) c.if-w.false
