use mathlib.Core.Path.{sym, ◌∙◌}
use native.Mathlib.Omega.{arith}
use Rattle.card_layout.proofs.Steps.{shorter, rows_on, rows_off, rows_end, laid_room}
use Rattle.card_layout.proofs.columns.laid.Goals as goal

pub returns-then-not-line_laid-clause-is : goal.returns-then-not-line_laid-clause-is
returns-then-not-line_laid-clause-is c = rows_off _ _ _ _ (omega arith) (sym c.line_laid.ensures.is ∙ c.if-not-line_laid.true) ∙ c.loop.invariant.1

pub loop-preserved : goal.loop-preserved
loop-preserved c =
    let h = c.loop.invariant.0 in
    (shorter _ _ h, rows_on _ _ _ _ (omega arith) (sym c.line_laid.ensures.is ∙ c.if-not-line_laid.false) ∙ c.loop.invariant.1)

pub returns-clause-is : goal.returns-clause-is
returns-clause-is c = rows_end _ _ _ _ (omega arith) ∙ c.loop.invariant.1

pub returns-clause-room : goal.returns-clause-room
returns-clause-room c = λ t. laid_room c.args.n c.args.k c.args.bytes.now (sym (returns-clause-is c))
