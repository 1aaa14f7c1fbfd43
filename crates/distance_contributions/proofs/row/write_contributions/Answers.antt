-- `row::write_contributions` meets its contract.
use mathlib.Core.Path.{ap, ◌∙◌}
use mathlib.Core.List.{List, ◌++◌}
use Rattle.std.proofs.Common.{rules}
use lib.ListN.{drop}
use Rattle.distance_theory.specs.declared.PairContribution.{PairContribution}
use Rattle.distance_contributions.specs.Row.{stored}
use Rattle.distance_contributions.proofs.Records.{row_short, row_crowded, row_whole}
use Rattle.distance_contributions.proofs.row.write_contributions.Goals as goal

pub returns-then-records-lt64 : goal.returns-then-records-lt64
returns-then-records-lt64 c = row_short c.args.records.now c.args.from.now c.args.count c.if-records-lt64.true

pub returns-then-count-gt64 : goal.returns-then-count-gt64
returns-then-count-gt64 c = row_crowded c.args.records.now c.args.from.now c.args.count c.if-records-lt64.false c.if-count-gt64.true

pub returns : goal.returns
returns c =
    ap (λ (l : List PairContribution). stored 0 (l ++ drop c.args.count c.args.records.now)) c.copy_from_slice.ensures.after
    ∙ row_whole c.args.records.now c.args.from.now c.args.count c.if-records-lt64.false c.if-count-gt64.false (search rules)
