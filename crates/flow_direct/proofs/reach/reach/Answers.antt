-- `reach::reach` meets its contract: two rows of at most 12 targets have at most 144 pairs.
use Rattle.std.proofs.Common.{rules}
use Prim.Native.Nat.{◌≤◌}
use native.Mathlib.Nat.{mul-le-mul}
use native.Mathlib.Omega.{arith}
use lib.ListN.{length}
use Rattle.flow_direct.proofs.reach.reach.Goals as goal

pub reach_in_room-requires-then-most-le12 : goal.reach_in_room-requires-then-most-le12
reach_in_room-requires-then-most-le12 c =
    let a : length c.args.test.now.left.targets.now ≤ 12 = search rules in
    let b : length c.args.test.now.right.targets.now ≤ 12 = search rules in
    let m = mul-le-mul a b in
    (c.requires, omega arith, omega arith)
