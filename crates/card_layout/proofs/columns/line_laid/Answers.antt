use mathlib.Core.Path.{sym, ◌∙◌}
use native.Mathlib.Omega.{arith}
use Rattle.card_layout.proofs.Steps.{starts_is, first_is, column_there, cols_on, cols_off, cols_end, line_room}
use Rattle.card_layout.proofs.columns.line_laid.Goals as goal

pub returns-then-not-starts_with-clause-is : goal.returns-then-not-starts_with-clause-is
returns-then-not-starts_with-clause-is c =
    cols_off _ _ _ (omega arith) (first_is _ _ _ _ _ c.column.ensures c.number.ensures.0 c.starts_with.ensures.value c.if-not-starts_with.true) ∙ c.loop.invariant

pub slice_bounds-rest-start : goal.slice_bounds-rest-start
slice_bounds-rest-start c = column_there _ (first_is _ _ _ _ _ c.column.ensures c.number.ensures.0 c.starts_with.ensures.value c.if-not-starts_with.false)

pub loop-preserved : goal.loop-preserved
loop-preserved c =
    cols_on _ _ _ (omega arith) (first_is _ _ _ _ _ c.column.ensures c.number.ensures.0 c.starts_with.ensures.value c.if-not-starts_with.false) ∙ c.loop.invariant

pub returns-clause-is : goal.returns-clause-is
returns-clause-is c = c.starts_with-2.ensures.value ∙ sym (starts_is _ _) ∙ cols_end _ _ _ (omega arith) ∙ c.loop.invariant

pub returns-clause-room : goal.returns-clause-room
returns-clause-room c = λ t. line_room c.args.k c.args.bytes.now _ (returns-clause-is c) t
