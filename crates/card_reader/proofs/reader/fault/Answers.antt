-- `reader::fault` meets its contract.
use mathlib.Core.Path.{refl, sym, ◌∙◌}
use Rattle.numbers.proofs.Refuses.{number_positive, turned_back_code}
use Rattle.card_reader.proofs.Fills.{left_off, right_off, last_off, last_more, no_fault}
use Rattle.card_reader.proofs.reader.fault.Goals as goal
use Rattle.card_reader.proofs.reader.fault.Goals.{then-not-laid-via-then-not-laid, then-not-laid-via-else-not-laid+then-last-gt13}

pub returns-in_err-side_fault : goal.returns-in_err-side_fault
returns-in_err-side_fault c =
    turned_back_code c.from_residual.result _ _ c.from_residual.ensures.1 (left_off c.args.s.now _ c.in_err-side_fault.ensures (number_positive _))

pub returns-in_err-side_fault-2 : goal.returns-in_err-side_fault-2
returns-in_err-side_fault-2 c =
    turned_back_code c.from_residual-in_err-side_fault-2.result _ _ c.from_residual-in_err-side_fault-2.ensures.1
    (right_off c.args.s.now _ _ c.after_side-right.ensures refl (sym c.in_ok-side_fault.ensures) _ c.in_err-side_fault-2.ensures (number_positive _))

pub returns-then-not-laid : goal.returns-then-not-laid
returns-then-not-laid c =
    let s = c.args.s.now in
    let right = c.after_side-right.ensures in
    let last = c.after_side-last.ensures in
    let p = sym c.in_ok-side_fault.ensures in
    let q = sym c.in_ok-side_fault-2.ensures in
    elim c.then-not-laid.branch [
      | then-not-laid-via-then-not-laid w ↦ last_off s _ _ right last p q (sym c.laid.ensures.is ∙ w.if-not-laid.true)
      | then-not-laid-via-else-not-laid+then-last-gt13 w ↦ last_more s _ _ right last p q (sym c.laid.ensures.is ∙ w.if-not-laid.false) w.if-last-gt13.true
    ]

pub returns : goal.returns
returns c =
    no_fault c.args.s.now _ _ c.after_side-right.ensures c.after_side-last.ensures (sym c.in_ok-side_fault.ensures) (sym c.in_ok-side_fault-2.ensures)
    (sym c.laid.ensures.is ∙ c.if-not-laid.false) c.if-last-gt13.false
