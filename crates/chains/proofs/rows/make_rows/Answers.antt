use native.Mathlib.Omega.{arith}
use Prim.Native.Nat.{◌+◌, ◌≤◌}
use Rattle.std.proofs.Common.{refl}
use Rattle.bisim_core.specs.Data.{columns_of}
use Rattle.chain_theory.specs.Lent.{of_store}
use Rattle.chains.proofs.Rowing.{rowing, makeable, within, turn, rowed}
use Rattle.chains.proofs.rows.make_rows.Goals as goal

pub loop-s-init : goal.loop-s-init
loop-s-init c = (
  rowing c.args.model.now.shape (columns_of c.args.model.now) c.args.rate (of_store c.args.store.now) (let h = c.requires.room.0 in omega arith),
  (refl, refl, refl, refl, refl, refl, refl, refl),
)

pub make_row-end-requires-clause-room : goal.make_row-end-requires-clause-room
make_row-end-requires-clause-room c = makeable (of_store c.args.store.now) c.requires.accepted c.requires.room c.loop-s.invariant.0 c.loop-s-test.true

pub overflow_cast-store : goal.overflow_cast-store
overflow_cast-store c =
    let last : c.loop-s.end + c.make_row-end.result ≤ 6096 = within (of_store c.args.store.now) c.requires.accepted c.requires.room c.loop-s.invariant.0 c.loop-s-test.true _ c.make_row-end.ensures.few in
    let e = last in omega arith

pub loop-s-preserved : goal.loop-s-preserved
loop-s-preserved c =
    let I = turn (of_store c.args.store.now) c.requires.accepted c.requires.room c.loop-s.invariant.0 c.loop-s-test.true _ c.make_row-end.ensures.few _ _ c.make_row-end.ensures.made c.make_row-end.auto.targets c.make_row-end.auto.probs in
    let L = c.loop-s.invariant.1 in
    (I, (L.0, L.1, L.2, L.3, I.o_size, I.t_size, I.p_size, L.7))

pub returns-clause-rows_laid : goal.returns-clause-rows_laid
returns-clause-rows_laid c = rowed (of_store c.args.store.now) c.loop-s.invariant.0 (let h = c.loop-s-test.false in let l = c.loop-s.invariant.0.low in omega arith)
