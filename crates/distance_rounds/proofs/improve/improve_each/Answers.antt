use mathlib.Core.Path.{refl, ◌∙◌}
use Rattle.std.proofs.Common.{rules}
use Rattle.std.proofs.Math.Bool.{or_comm}
use Prim.Native.Nat.{ℕ}
use native.Mathlib.Omega.{arith}
use lib.ListN.{take, length-replicate}
use lib.Ieee.{Float}
use Rattle.numbers.specs.Real.{nought}
use Rattle.distance_words.proofs.Improving.{adopt}
use Rattle.distance_rounds.proofs.Steps.{adopt_size, worked_in, work_cut, betters_start, betters_next, betters_end}
use Rattle.distance_rounds.proofs.improve.improve_each.Goals as goal

pub loop-k-init : goal.loop-k-init
loop-k-init c = (length-replicate {A = ℕ} 1024 0, length-replicate {A = Float} 1024 nought, (refl, refl, refl), betters_start _ _ _ _ _ _ _ _ _)

pub adopt-improved-requires : goal.adopt-improved-requires
adopt-improved-requires c =
    let a = c.args in
    let I = c.loop-k.invariant in
    let W = worked_in a.task.now a.values.now c.loop-k.k c.loop-k-test.true c.requires.0 c.requires.1 c.loop-k.work.places.now c.loop-k.work.masses.now I.0 I.1 c.best_pair-best.result c.best_pair-best.ensures.bested in
    let l = I.3.lengths_size in
    let (even, few) = work_cut W (c.best_pair-best.ensures.lists.2 ∙ I.0) (c.best_pair-best.ensures.lists.3 ∙ I.1) c.first.ensures in
    (omega arith, omega arith, even, few)

pub loop-k-preserved : goal.loop-k-preserved
loop-k-preserved c =
    let a = c.args in
    let S = c.loop-k.store in
    let I = c.loop-k.invariant in
    let W = worked_in a.task.now a.values.now c.loop-k.k c.loop-k-test.true c.requires.0 c.requires.1 c.loop-k.work.places.now c.loop-k.work.masses.now I.0 I.1 c.best_pair-best.result c.best_pair-best.ensures.bested in
    let b = c.best_pair-best.result in
    let L = c.best_pair-best.new.shares in
    let (p, m) = c.first.ensures in
    let e = c.adopt-improved.ensures.adopted ∙ (λ i. adopt b.value (p i) (m i) a.values.now c.loop-k.k a.starts.now S.lengths.now S.places.now S.masses.now) in (
      c.best_pair-best.ensures.lists.2 ∙ I.0,
      c.best_pair-best.ensures.lists.3 ∙ I.1,
      search rules,
      betters_next I.3 c.loop-k-test.true W c.apart.ensures c.larger-residual.ensures e (adopt_size b.value (take b.cells L.places.now) (take b.cells L.masses.now) a.values.now c.loop-k.k a.starts.now S.lengths.now S.places.now S.masses.now e) (or_comm c.loop-k.improved c.adopt-improved.result),
    )

pub returns-clause-bettered : goal.returns-clause-bettered
returns-clause-bettered c = betters_end c.loop-k.invariant.3 c.loop-k-test.false
