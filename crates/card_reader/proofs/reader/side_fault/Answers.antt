-- `reader::side_fault` meets its contract.
use native.Mathlib.Omega.{arith}
use mathlib.Core.Path.{sym, ◌∙◌}
use Rattle.card_reader.proofs.Checks.{classes_laid, transitions_laid, head_off, states_over, transitions_over, classes_off, transitions_off, side_passed}
use Rattle.card_reader.proofs.reader.side_fault.Goals as goal
use Rattle.card_reader.proofs.reader.side_fault.Goals.{then-of-gt32-via-then-of-gt32, then-of-gt32-via-else-of-gt32+then-of-gt200, then-not-laid-2-via-then-not-laid-2, then-not-laid-2-via-else-not-laid-2+then-not-laid-3}

pub returns-then-not-laid : goal.returns-then-not-laid
returns-then-not-laid c = head_off c.args.s.now (sym c.laid.ensures.is ∙ c.if-not-laid.true)

pub returns-then-of-gt32 : goal.returns-then-of-gt32
returns-then-of-gt32 c =
    let s = c.args.s.now in
    let h = sym c.laid.ensures.is ∙ c.if-not-laid.false in
    let e = c.first_line-of.ensures in
    elim c.then-of-gt32.branch [
      | then-of-gt32-via-then-of-gt32 w ↦ let a = w.if-of-gt32.true in states_over s h (omega arith)
      | then-of-gt32-via-else-of-gt32+then-of-gt200 w ↦ let a = w.if-of-gt32.false in let b = w.if-of-gt200.true in transitions_over s h (omega arith) (omega arith)
    ]

pub returns-then-not-laid-2 : goal.returns-then-not-laid-2
returns-then-not-laid-2 c =
    let s = c.args.s.now in
    let h = sym c.laid.ensures.is ∙ c.if-not-laid.false in
    let e = c.first_line-of.ensures in
    elim c.then-not-laid-2.branch [
      | then-not-laid-2-via-then-not-laid-2 w ↦ classes_off s h (omega arith) (omega arith) (classes_laid s _ _ e.0 e.2 c.laid-2.ensures.is w.if-not-laid-2.true)
      | then-not-laid-2-via-else-not-laid-2+then-not-laid-3 w ↦
          transitions_off s h (omega arith) (omega arith) (classes_laid s _ _ e.0 e.2 c.laid-2.ensures.is w.if-not-laid-2.false) (transitions_laid s _ _ e.0 e.2 w.laid-else-not-laid-2.ensures.is w.if-not-laid-3.true)
    ]

pub returns : goal.returns
returns c =
    let s = c.args.s.now in
    let e = c.first_line-of.ensures in
    side_passed s (sym c.laid.ensures.is ∙ c.if-not-laid.false) (omega arith) (omega arith)
    (classes_laid s _ _ e.0 e.2 c.laid-2.ensures.is c.if-not-laid-2.false) (transitions_laid s _ _ e.0 e.2 c.laid-else-not-laid-2.ensures.is c.if-not-laid-3.false)
