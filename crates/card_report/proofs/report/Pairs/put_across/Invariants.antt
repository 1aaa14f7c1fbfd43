-- `Pairs::put_across` meets its contract.
use Prim.Native.Nat.{◌*◌, ◌-◌, ◌≤◌}
use Rattle.card_report.specs.Report.{across}
use Rattle.card_report.specs.Paired.{relation_of}
use Rattle.card_report.proofs.Texts.{Putting}
use Rattle.card_report.proofs.report.Pairs.put_across.Given as goal

abbrev pub invariant-loop-t : goal.invariant-loop-t
invariant-loop-t l =
    (l.size ≤ 13 * l.t) × Putting (across (relation_of l.self) l.self.left l.self.right l.s (l.self.right - l.t) l.t) (across (relation_of l.self) l.self.left l.self.right l.s l.self.right 0) l.initial.out l.out l.size
