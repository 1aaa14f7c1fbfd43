-- `Pairs::put` meets its contract.
use Prim.Native.Nat.{◌*◌, ◌-◌, ◌≤◌}
use Rattle.card_report.specs.Report.{down, pairs}
use Rattle.card_report.specs.Paired.{relation_of}
use Rattle.card_report.proofs.Texts.{Putting}
use Rattle.card_report.proofs.report.Pairs.put.Given as goal

abbrev pub invariant-loop-s : goal.invariant-loop-s
invariant-loop-s l =
    (l.size ≤ 416 * l.s) × Putting (down (relation_of l.self) l.self.left l.self.right (l.self.left - l.s) l.s) (pairs (relation_of l.self) l.self.left l.self.right) l.initial.out l.out l.size
