-- `print::report` meets its contract: by what the reader answered (Prints).
use mathlib.Core.Path.{ap, ◌∙◌}
use Rattle.card_report.specs.Report.{refusal_line}
use Rattle.card_report.proofs.Texts.{line_short}
use Rattle.card_relation.proofs.Relates.{retold, of_room}
use Rattle.card.proofs.Prints.{was_refused, was_room, was_printed}
use Rattle.card.proofs.print.report.Goals as goal

pub returns-then-out-lt-MOST_REPORT : goal.returns-then-out-lt-MOST_REPORT
returns-then-out-lt-MOST_REPORT c = line_short _ c.args.out.now c.if-out-lt-MOST_REPORT.true

pub print_card-requires : goal.print_card-requires
print_card-requires c = (was_room _ c.read_card.ensures.answered c.in-Ok.is, c.if-out-lt-MOST_REPORT.false)

pub returns-in-Err : goal.returns-in-Err
returns-in-Err c = retold (ap refusal_line c.number.ensures ∙ was_refused _ c.read_card.ensures.answered c.in-Err.is) c.refusal_text.ensures

pub returns-in-Ok : goal.returns-in-Ok
returns-in-Ok c =
    of_room _ c.args.out.now _ _ c.if-out-lt-MOST_REPORT.false
    (retold (was_printed _ c.read_card.ensures.answered c.in-Ok.is) c.print_card.ensures)
