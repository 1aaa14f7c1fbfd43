-- `print::print_both` meets its contract: the arm says which models there are, and the classes are cut out of their list.
use mathlib.Core.Path.{sym, ap, subst, ◌∙◌}
use Rattle.std.specs.Prelude.{Result, ◌≤◌}
use Rattle.numbers.specs.declared.refusal.Refusal.{Refusal}
use Rattle.numbers.specs.Refuse.{numbered}
use Rattle.bisim_core.specs.declared.wlts.Shape.{Shape}
use Rattle.build_theory.specs.Lent.{columns_in}
use Rattle.card_report.specs.Report.{refusal_line}
use Rattle.card_models.proofs.Handing.{FewBoth}
use Rattle.card_relation.proofs.Relates.{retold, at_parts, with_room, relation_free}
use Rattle.card_models.proofs.Builds.{lists_refused, lists_related}
use Rattle.card.proofs.Sided.{relation_stands}
use Rattle.card.proofs.print.print_both.Goals as goal

pub returns-in-Err : goal.returns-in-Err
returns-in-Err c =
    let p = c.requires in
    let a = c.args in
    retold (lists_refused (columns_in a.left.now) (columns_in a.right.now) a.heads a.classes.now (numbered a.models) _ (ap numbered c.in-Err.is))
    (with_room _ a.out.now _ _ p.2 (retold (ap refusal_line c.number.ensures) c.refusal_text.ensures))

pub returns-in-Ok : goal.returns-in-Ok
returns-in-Ok c =
    let p = c.requires in
    let a = c.args in
    let f = subst (λ (x : Result (Shape × Shape) Refusal). FewBoth (numbered x)) c.in-Ok.is p.0 in
    let l = c.model.ensures in
    let r = c.model-in-Ok.ensures in
    let few : Shape → Type 0 = λ S. S.states ≤ 32 in
    retold (relation_stands _ _ _ _ l.counts l.columns r.counts r.columns ∙ at_parts _ _ _ _ _ _ _ _ c.in_parts.ensures ∙ lists_related (columns_in a.left.now) (columns_in a.right.now) a.heads a.classes.now (numbered a.models) _ _ (ap numbered c.in-Ok.is))
    (relation_free c.model.result.shape c.model-in-Ok.result.shape _ a.out.now _ _ (subst few (sym l.counts) f.0) (subst few (sym r.counts) f.1) p.2 c.relation_text.ensures)
