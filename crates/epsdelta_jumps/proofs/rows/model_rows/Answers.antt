-- A turn makes the row of the next state behind those made.
use mathlib.Core.Path.{refl}
use Prim.Native.Nat.{ℕ, ◌≤◌}
use native.Mathlib.Omega.{arith}
use lib.ListN.{length-set}
use Rattle.epsdelta_jumps.proofs.Makes.{fillable, turn, within}
use Rattle.epsdelta_jumps.proofs.rows.model_rows.Goals as goal

pub fill-end-requires : goal.fill-end-requires
fill-end-requires c = record { room = fillable c.requires.model.0 c.requires.room c.loop-s.invariant c.loop-s-test.true }

pub overflow_cast-rows : goal.overflow_cast-rows
overflow_cast-rows c =
    let low : c.fill-end.result ≤ 8192 = within c.requires.model.0 c.requires.room c.loop-s.invariant c.loop-s-test.true c.fill-end.result c.fill-end.ensures.end c.requires.model.2 in
    omega arith

pub loop-s-preserved : goal.loop-s-preserved
loop-s-preserved c =
    let e = c.fill-end.ensures in
    turn c.requires.model.0 c.requires.room c.loop-s.invariant c.loop-s-test.true c.fill-end.result c.fill-end.new.rows _ e.end e.lists (refl, refl, refl, refl, refl, length-set {A = ℕ} _ _ _, refl, refl) e.filled e.starts refl refl refl refl
