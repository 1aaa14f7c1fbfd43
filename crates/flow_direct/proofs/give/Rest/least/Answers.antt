use mathlib.Core.Path.{◌≡◌}
use Prim.Native.Nat.{◌-◌, ◌+◌}
use native.Mathlib.Omega.{arith}
use Rattle.flow_routes.proofs.Pathing.{least_starts, least_turns, least_done}
use Rattle.flow_direct.proofs.give.Rest.least.Goals as goal

pub loop-g-init : goal.loop-g-init
loop-g-init c = (c.requires.2.upto, omega arith, least_starts _ _ _ _ _ _ _)

pub loop-g-preserved : goal.loop-g-preserved
loop-g-preserved c = let i = c.loop-g.invariant in let j = i.1 in let t = c.loop-g-test.true in let z : c.loop-g.g - 1 + 1 ≡ c.loop-g.g = omega arith in (omega arith, omega arith, least_turns _ _ _ _ _ _ _ _ _ i.2 t j _ _ (rw z at c.entry-e.ensures) c.smaller-x.ensures)

pub returns : goal.returns
returns c = let i = c.loop-g.invariant in let j = i.0 in let t = c.loop-g-test.false in least_done _ _ _ _ _ _ _ c.requires.2.upto _ _ i.2 (omega arith) _ c.smaller.ensures
