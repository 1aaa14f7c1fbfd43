-- `relating::relation_text` meets its contract: by the checks before (Relates), then the same with room.
use Rattle.card_relation.proofs.Relates.{left_over, right_over, store_short, relation_room}
use Rattle.card_relation.proofs.relating.relation_text.Goals as goal
use Rattle.card_relation.proofs.relating.relation_text.Goals.{then-sides-gt32-via-then-sides-gt32, then-sides-gt32-via-else-sides-gt32+then-sides-gt32-2}

pub returns-then-sides-gt32 : goal.returns-then-sides-gt32
returns-then-sides-gt32 c =
    let B = c.args.sides.now in
    elim c.then-sides-gt32.branch [
      | then-sides-gt32-via-then-sides-gt32 w ↦ left_over B.left.model.shape B.right.model.shape _ c.args.out.now w.if-sides-gt32.true
      | then-sides-gt32-via-else-sides-gt32+then-sides-gt32-2 w ↦ right_over B.left.model.shape B.right.model.shape _ c.args.out.now w.if-sides-gt32.false w.if-sides-gt32-2.true
    ]

pub returns-then-out-lt-MOST_REPORT : goal.returns-then-out-lt-MOST_REPORT
returns-then-out-lt-MOST_REPORT c =
    let B = c.args.sides.now in
    store_short B.left.model.shape B.right.model.shape _ c.args.out.now c.if-sides-gt32.false c.if-sides-gt32-2.false c.if-out-lt-MOST_REPORT.true

pub returns : goal.returns
returns c =
    let B = c.args.sides.now in
    relation_room B.left.model.shape B.right.model.shape _ c.args.out.now _ _ c.if-sides-gt32.false c.if-sides-gt32-2.false c.if-out-lt-MOST_REPORT.false c.print_models.ensures
