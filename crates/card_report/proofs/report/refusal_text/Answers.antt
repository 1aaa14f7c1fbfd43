-- `report::refusal_text` meets its contract.
use native.Mathlib.Omega.{arith}
use Rattle.card_report.proofs.Texts.{line_short, line_written}
use Rattle.card_report.proofs.report.refusal_text.Goals as goal

pub returns-then-out-lt-MOST_REPORT : goal.returns-then-out-lt-MOST_REPORT
returns-then-out-lt-MOST_REPORT c = line_short _ c.args.out.now c.if-out-lt-MOST_REPORT.true

pub returns : goal.returns
returns c =
    let b = c.args in
    line_written b.number b.out.now _ (omega arith) c.put_line.ensures
