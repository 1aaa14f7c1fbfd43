-- `reader::read_card` meets its contract.
use mathlib.Core.Path.{sym, ◌∙◌}
use Rattle.card_layout.specs.Card.{card_in}
use Rattle.card_reader.specs.Lent.{columns_of}
use Rattle.card_reader.proofs.Fills.{refused_answered, short_answered, card_answered, counts_together}
use Rattle.card_reader.proofs.reader.read_card.Goals as goal

pub returns-in_err-fault-clause-answered : goal.returns-in_err-fault-clause-answered
returns-in_err-fault-clause-answered c = refused_answered c.args.s.now (columns_of c.args.lists.now) c.from_residual.result _ c.from_residual.ensures.1 c.in_err-fault.ensures

pub returns-then-not-enough-clause-answered : goal.returns-then-not-enough-clause-answered
returns-then-not-enough-clause-answered c =
    let b = c.args in
    short_answered b.s.now (columns_of b.lists.now) (sym c.in_ok-fault.ensures)
    (sym (c.enough.ensures ∙ counts_together (card_in b.s.now) _ _ _ _ _ _ c.heads_of-heads.ensures) ∙ c.if-not-enough.true)

pub returns-clause-answered : goal.returns-clause-answered
returns-clause-answered c =
    let b = c.args in
    card_answered b.s.now (columns_of b.lists.now) _ _ (sym c.in_ok-fault.ensures)
    (sym (c.enough.ensures ∙ counts_together (card_in b.s.now) _ _ _ _ _ _ c.heads_of-heads.ensures) ∙ c.if-not-enough.false)
    c.heads_of-heads.ensures c.fill_card.ensures.filled
