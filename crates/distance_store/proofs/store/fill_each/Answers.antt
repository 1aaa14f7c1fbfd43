use mathlib.Core.Path.{refl}
use native.Mathlib.Omega.{arith}
use Rattle.distance_store.proofs.Filling.{refused, fills_start, fills_end, cells_here, fills_on, fills_ended}
use Rattle.distance_store.proofs.store.fill_each.Goals as goal

pub loop-k-init : goal.loop-k-init
loop-k-init c = ((refl, refl, refl), fills_start _ _ _ _ _ _)

pub returns-in_err-cells-clause-filled : goal.returns-in_err-cells-clause-filled
returns-in_err-cells-clause-filled c =
    let r = c.requires.1 in
    refused c.from_residual.result _ c.from_residual.ensures.1 (fills_ended c.args.task.now c.loop-k.invariant.1 c.loop-k-test.true (omega arith) _ _ _ c.lay_pair.ensures.laid c.in_err-cells.ensures.ok_part)

pub overflow_cast-store : goal.overflow_cast-store
overflow_cast-store c =
    let r = c.requires.1 in
    let e = (cells_here c.args.task.now c.loop-k.invariant.1 c.loop-k-test.true (omega arith) _ _ _ c.lay_pair.ensures.laid c.in_ok-cells.ensures.ok_part).0 in omega arith

pub overflow_add-at : goal.overflow_add-at
overflow_add-at c =
    let r = c.requires.1 in
    let e = (cells_here c.args.task.now c.loop-k.invariant.1 c.loop-k-test.true (omega arith) _ _ _ c.lay_pair.ensures.laid c.in_ok-cells.ensures.ok_part).0 in
    let f = c.loop-k.invariant.1.few in let h = c.loop-k-test.true in let p = c.requires.0 in omega arith

pub loop-k-preserved : goal.loop-k-preserved
loop-k-preserved c =
    let r = c.requires.1 in
    (c.loop-k.invariant.0, fills_on c.args.task.now c.loop-k.invariant.1 c.loop-k-test.true (omega arith) _ _ _ c.lay_pair.ensures.laid c.in_ok-cells.ensures.ok_part c.lay_pair.auto.places c.lay_pair.auto.masses)

pub returns-clause-filled : goal.returns-clause-filled
returns-clause-filled c = fills_end c.loop-k.invariant.1 c.loop-k-test.false
