use mathlib.Core.Path.{sym, ap, ◌∙◌}
use Prim.Native.Nat.{ℕ}
use native.Mathlib.Omega.{arith}
use lib.Ieee.{nan}
use lib.ListN.{length, get_or, length-set}
use Rattle.numbers.proofs.Over.{over_next}
use Rattle.distance_theory.proofs.Index.{look_up}
use Rattle.distance_theory.proofs.Bests.{costs_length, costs_at}
use Rattle.distance_theory.proofs.RowsLent.{values_rows}
use Rattle.distance_couplings.proofs.Moves.{written}
use Rattle.distance_couplings.proofs.best.lay_values.Goals as goal

pub loop-k-preserved : goal.loop-k-preserved
loop-k-preserved c =
    let I = c.loop-k.invariant in
    let h = c.loop-k-test.true in
    let R = c.args.of.now.rows in
    let e = I.1 in
    let r = c.requires.cells in
    let n = costs_length (look_up R.codes.now) R.xs.targets.now R.xs.probs.now R.ys.targets.now R.ys.probs.now (length R.codes.now) c.requires.beside c.args.of.now.values.now in (
      omega arith,
      length-set c.loop-k.costs c.loop-k.k _ ∙ I.1,
      over_next (values_rows R c.args.of.now.values.now) c.args.costs.now c.loop-k.costs c.loop-k.k nan _ I.2
          (c.value_at.ensures ∙ ap (λ (i : ℕ). get_or c.args.of.now.values.now i nan) c.place-at.ensures ∙ sym (costs_at (look_up R.codes.now) R.xs.targets.now R.xs.probs.now R.ys.targets.now R.ys.probs.now (length R.codes.now) c.requires.beside c.args.of.now.values.now c.loop-k.k (omega arith)))
          (omega arith) (omega arith),
    )

pub returns : goal.returns
returns c =
    let R = c.args.of.now.rows in
    let n = costs_length (look_up R.codes.now) R.xs.targets.now R.xs.probs.now R.ys.targets.now R.ys.probs.now (length R.codes.now) c.requires.beside c.args.of.now.values.now in
    let h = c.loop-k-test.false in
    let l = c.loop-k.invariant.0 in
    let e = c.loop-k.invariant.1 in
    let r = c.requires.cells in
    written (values_rows R c.args.of.now.values.now) c.args.costs.now c.loop-k.costs c.loop-k.k c.loop-k.invariant.2 (omega arith) (omega arith)
