-- `Pairs::related` meets its contract.
use native.Mathlib.Omega.{arith}
use mathlib.Core.Path.{◌∙◌}
use Rattle.card_report.proofs.Texts.{related_at}
use Rattle.card_report.proofs.report.Pairs.related.Goals as goal

pub returns : goal.returns
returns c = let b = c.args in c.bit.ensures ∙ related_at b.self.now.relation.now b.self.now.left b.self.now.right b.s b.t (omega arith) (omega arith)
