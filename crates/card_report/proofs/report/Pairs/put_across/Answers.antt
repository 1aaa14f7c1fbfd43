use native.Mathlib.Omega.{arith}
use mathlib.Core.Path.{sym, ◌∙◌}
use mathlib.Core.List.{[], ◌∷◌}
use Rattle.card_layout.specs.Layout.{line}
use Rattle.card_report.specs.Paired.{relation_of}
use Rattle.card_layout.proofs.Writes.{put_from}
use Rattle.card_report.proofs.Texts.{putting_ends, turn_hit, turn_miss, across_none, length_pair}
use Rattle.card_report.proofs.report.Pairs.put_across.Goals as goal
use Rattle.card_report.proofs.report.Pairs.put_across.Goals.{then-related, else-related}

pub loop-t-preserved : goal.loop-t-preserved
loop-t-preserved c =
    let b = c.args.self.now in
    let s = c.args.s in
    let t = c.loop-t.t in
    let v = c.loop-t.invariant.1 in
    let z = v.sized in
    let n = length_pair s t in
    let R = relation_of b in
    elim c.if-related.branch [
      | then-related w ↦ (
        omega (arith, w.size-is),
        turn_hit R b.left b.right s t (omega arith) _ c.args.out.now c.loop-t.out c.loop-t.size v _ _
            (sym c.related.ensures ∙ w.if-related.true) (w.out-is ∙ put_from c.loop-t.size c.loop-t.out (line (s ∷ t ∷ [])) _ (omega arith) w.put_line.ensures) w.size-is,
      )
      | else-related w ↦ (
        omega (arith, w.size-is),
        turn_miss R b.left b.right s t (omega arith) _ c.args.out.now c.loop-t.out c.loop-t.size v _ _ (sym c.related.ensures ∙ w.if-related.false) w.out-is w.size-is,
      )
    ]

pub returns : goal.returns
returns c =
    let b = c.args.self.now in
    let v = c.loop-t.invariant in
    let e = across_none (relation_of b) b.left b.right c.args.s c.loop-t.t (omega arith) in
    let k = putting_ends e v.1 in
    record { size = k.0; far = omega arith; leaves = k.1 }
