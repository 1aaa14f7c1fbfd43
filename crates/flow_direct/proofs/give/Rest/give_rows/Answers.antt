use mathlib.Core.Path.{sym, ◌∙◌}
use mathlib.Core.Bool.{true≢false}
use Rattle.flow_direct.proofs.Lasting.{given_joins}
use Rattle.flow_direct.proofs.give.Rest.give_rows.Goals as goal

pub returns-then-need-total : goal.returns-then-need-total
returns-then-need-total c = (_, λ h. absurd (true≢false (sym c.if-need-total.true ∙ h)), given_joins c.loop-i.invariant.0.0 c.loop-i.invariant.0.1 c.give_row-total.ensures.1)

pub loop-i-preserved : goal.loop-i-preserved
loop-i-preserved c = (given_joins c.loop-i.invariant.0.0 c.loop-i.invariant.0.1 c.give_row-total.ensures.1, c.first_open-from.ensures)
