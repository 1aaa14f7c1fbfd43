use native.Mathlib.Omega.{arith}
use Rattle.card_layout.specs.Layout.{lines}
use Rattle.card_layout.proofs.Writes.{put_from}
use Rattle.card_report.specs.Report.{across}
use Rattle.card_report.specs.Paired.{relation_of}
use Rattle.card_report.proofs.Texts.{putting_ends, turn_down, across_rows, down_none}
use Rattle.card_report.proofs.report.Pairs.put.Goals as goal

pub loop-s-preserved : goal.loop-s-preserved
loop-s-preserved c =
    let b = c.args.self.now in
    let s = c.loop-s.s in
    let a = c.put_across-size.ensures in
    let v = c.loop-s.invariant.1 in
    let z = v.sized in
    let R = relation_of b in
    let n = (across_rows R b.left b.right s b.right 0).1 in
    let f = a.size in
    let g = a.far in (
      omega arith,
      turn_down R b.left b.right s (omega arith) _ c.args.out.now c.loop-s.out _ c.loop-s.size _ (omega arith) (put_from c.loop-s.size c.loop-s.out (lines (across R b.left b.right s b.right 0)) _ (omega arith) a.leaves) v,
    )

pub returns : goal.returns
returns c =
    let b = c.args.self.now in
    let k = putting_ends (down_none (relation_of b) b.left b.right c.loop-s.s (omega arith)) c.loop-s.invariant.1 in
    record { size = k.0; far = omega arith; leaves = k.1 }
