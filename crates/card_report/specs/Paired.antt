-- The relation whose pairs are written.
use Rattle.std.specs.Prelude.{Bool, List, ◌+◌}
use Rattle.card_report.specs.Report.{relation_in}
use Rattle.card_report.specs.declared.report.Pairs.{Pairs}

-- the relation that the bytes hold
abbrev pub relation_of : Pairs → List Bool
relation_of p = relation_in p.relation.now (p.left + p.right)
