use mathlib.Core.Path.{refl, sym, ap₂, ◌∙◌}
use native.Mathlib.Omega.{arith}
use lib.Ieee.{Float, nan, binary64, mul, div}
use lib.ListN.{length-map, length-set}
use Rattle.numbers.proofs.Over.{over_next}
use Rattle.distance_theory.proofs.Crossings.{map_at}
use Rattle.distance_couplings.proofs.Moves.{written}
use Rattle.distance_couplings.proofs.best.fit.Invariants.{fitted}
use Rattle.distance_couplings.proofs.best.fit.Goals as goal

pub loop-j-init : goal.loop-j-init
loop-j-init c = (omega arith, refl, refl)

pub loop-j-preserved : goal.loop-j-preserved
loop-j-preserved c =
    let I = c.loop-j.invariant in
    let h = c.loop-j-test.true in
    let e = I.1 in
    let r = c.requires in
    let by = λ (x : Float). div binary64 (mul binary64 x c.value-left.result) c.value-right.result in
    let n = length-map c.args.qs.now by in (
      omega arith,
      length-set c.loop-j.fitted c.loop-j.j _ ∙ I.1,
      over_next (fitted c.args.qs.now c.value-left.result c.value-right.result) c.args.fitted.now c.loop-j.fitted c.loop-j.j nan _ I.2 (sym (map_at by c.args.qs.now c.loop-j.j nan nan (omega arith))) (omega arith) (omega arith),
    )

pub returns : goal.returns
returns c =
    let h = c.loop-j-test.false in let l = c.loop-j.invariant.0 in
    let n = length-map c.args.qs.now (λ (x : Float). div binary64 (mul binary64 x c.value-left.result) c.value-right.result) in
    let e = c.loop-j.invariant.1 in
    let r = c.requires in
    written (fitted c.args.qs.now c.value-left.result c.value-right.result) c.args.fitted.now c.loop-j.fitted c.loop-j.j c.loop-j.invariant.2 (omega arith) (omega arith)
    ∙ ap₂ (fitted c.args.qs.now) (c.value-left.ensures ∙ c.sum.ensures) (c.value-right.ensures ∙ c.sum-2.ensures)
