use native.Mathlib.Omega.{arith}
use mathlib.Core.Path.{◌∙◌}
use Rattle.card_layout.proofs.Writes.{line_on, line_end}
use Rattle.card_report.proofs.lines.put_line.Goals as goal

pub loop-k-preserved : goal.loop-k-preserved
loop-k-preserved c = line_on _ c.args.row.now _ c.loop-k.k (omega arith) (c.copy_from_slice.ensures.after ∙ c.column.ensures) (omega arith) ∙ c.loop-k.invariant

pub returns : goal.returns
returns c = line_end _ c.args.row.now c.loop-k.k (omega arith) ∙ c.loop-k.invariant
