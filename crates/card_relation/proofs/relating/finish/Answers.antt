-- The arm says what `epsdelta` answered, and Relates turns it into the text.
use mathlib.Core.Path.{sym, ap, ◌∙◌}
use Rattle.std.specs.Prelude.{Result}
use Rattle.numbers.specs.declared.refusal.Refusal.{Refusal}
use Rattle.numbers.specs.Refuse.{number, numbered}
use Rattle.epsdelta.specs.Outcome.{ends}
use Rattle.card_report.specs.Report.{refusal_line}
use Rattle.card_relation.proofs.Relates.{retold, finish_related, finish_refused}
use Rattle.card_relation.proofs.relating.finish.Goals as goal

pub returns-in-Ok : goal.returns-in-Ok
returns-in-Ok c =
    let p = c.requires in
    let a = c.args in
    λ n store R e k. finish_related a.sides.now.left.model.shape.states a.sides.now.right.model.shape.states n a.relation.now store R a.out.now _ _ p.few.0 p.few.1 p.room.0 p.room.1 (ap (λ (x : Result (Unit {0}) Refusal). ends (numbered x) a.relation.now) (sym c.in-Ok.is) ∙ e) k c.report_text.ensures

pub returns-in-Err : goal.returns-in-Err
returns-in-Err c =
    let p = c.requires in
    let a = c.args in
    λ n store R e k. finish_refused a.sides.now.left.model.shape.states a.sides.now.right.model.shape.states n a.relation.now store R a.out.now _ _ (number c.in-Err.refusal) p.room.1
    (ap (λ (x : Result (Unit {0}) Refusal). ends (numbered x) a.relation.now) (sym c.in-Err.is) ∙ e) (retold (ap refusal_line c.number.ensures) c.refusal_text.ensures)
