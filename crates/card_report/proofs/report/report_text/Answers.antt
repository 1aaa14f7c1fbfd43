-- `report::report_text` meets its contract.
use Prim.Native.Nat.{◌+◌}
use native.Mathlib.Omega.{arith}
use Rattle.card_layout.specs.Layout.{lines}
use Rattle.card_layout.proofs.Writes.{put_from}
use Rattle.card_report.specs.Report.{pairs, relation_in}
use Rattle.card_report.proofs.Texts.{left_over, right_over, relation_short, store_short, reported, pairs_length}
use Rattle.card_report.proofs.report.report_text.Goals as goal
use Rattle.card_report.proofs.report.report_text.Goals.{then-left-gt32-via-then-left-gt32, then-left-gt32-via-else-left-gt32+then-right-gt32, then-relation-needed-via-then-relation-needed, then-relation-needed-via-else-relation-needed+then-out-lt-MOST_REPORT}

pub returns-then-left-gt32 : goal.returns-then-left-gt32
returns-then-left-gt32 c =
    let b = c.args in
    elim c.then-left-gt32.branch [
      | then-left-gt32-via-then-left-gt32 w ↦ left_over b.relation.now b.left b.right b.out.now w.if-left-gt32.true
      | then-left-gt32-via-else-left-gt32+then-right-gt32 w ↦ right_over b.relation.now b.left b.right b.out.now w.if-left-gt32.false w.if-right-gt32.true
    ]

pub returns-then-relation-needed : goal.returns-then-relation-needed
returns-then-relation-needed c =
    let b = c.args in
    let e = c.relation_bytes-needed.ensures.few (omega arith) in
    elim c.then-relation-needed.branch [
      | then-relation-needed-via-then-relation-needed w ↦ relation_short b.relation.now b.left b.right b.out.now (omega arith) (omega arith) _ e w.if-relation-needed.true
      | then-relation-needed-via-else-relation-needed+then-out-lt-MOST_REPORT w ↦ store_short b.relation.now b.left b.right b.out.now (omega arith) (omega arith) _ e w.if-relation-needed.false w.if-out-lt-MOST_REPORT.true
    ]

pub returns : goal.returns
returns c =
    let b = c.args in
    let e = c.relation_bytes-needed.ensures.few (omega arith) in
    let p = c.put-size.ensures in
    let R = relation_in b.relation.now (b.left + b.right) in
    let n = pairs_length R b.left b.right in
    let f = p.size in
    let g = p.far in
    reported b.relation.now b.left b.right b.out.now (omega arith) (omega arith) _ e c.if-relation-needed.false c.if-out-lt-MOST_REPORT.false _ _ _
    f (put_from 19 b.out.now (lines (pairs R b.left b.right)) _ (omega arith) p.leaves) c.put_line.ensures
