use mathlib.Core.Path.{sym, ◌∙◌}
use native.Mathlib.Omega.{arith}
use lib.ListN.{length, length-set}
use Rattle.numbers.proofs.Over.{over_next}
use Rattle.distance_theory.proofs.Index.{look_up}
use Rattle.distance_theory.proofs.Bests.{places_by, places_length, places_at}
use Rattle.distance_couplings.proofs.Moves.{written}
use Rattle.distance_couplings.proofs.best.lay_planned.Goals as goal

pub loop-i-preserved : goal.loop-i-preserved
loop-i-preserved c =
    let I = c.loop-i.invariant in
    let h = c.loop-i-test.true in
    let e = I.1 in
    let R = c.args.rows.now in
    let P = c.args.plan.now in
    let count = length c.args.places.now in
    let n = places_length (look_up R.codes.now) R.xs.targets.now R.ys.targets.now P.rows.now P.columns.now count in (
      omega arith,
      length-set c.loop-i.places c.loop-i.i _ ∙ e,
      over_next (places_by (look_up R.codes.now) R.xs.targets.now R.ys.targets.now P.rows.now P.columns.now count) c.args.places.now c.loop-i.places c.loop-i.i 0 _ I.2
          (c.place.ensures ∙ sym (places_at (look_up R.codes.now) R.xs.targets.now R.ys.targets.now P.rows.now P.columns.now count c.loop-i.i (omega arith)))
          (omega arith) (omega arith),
    )

pub returns : goal.returns
returns c =
    let R = c.args.rows.now in
    let P = c.args.plan.now in
    let h = c.loop-i-test.false in
    let l = c.loop-i.invariant.0 in
    let e = c.loop-i.invariant.1 in
    let count = length c.args.places.now in
    let n = places_length (look_up R.codes.now) R.xs.targets.now R.ys.targets.now P.rows.now P.columns.now count in
    written (places_by (look_up R.codes.now) R.xs.targets.now R.ys.targets.now P.rows.now P.columns.now count) c.args.places.now c.loop-i.places c.loop-i.i c.loop-i.invariant.2 (omega arith) (omega arith)
