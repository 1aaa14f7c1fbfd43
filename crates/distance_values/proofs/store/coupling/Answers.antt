-- `store::coupling` meets its contract: the parts of both lists that are lent.
use native.Mathlib.Omega.{arith}
use Prim.Native.Nat.{◌+◌}
use lib.ListN.{get_or}
use Rattle.distance_theory.proofs.Held.{part_is}
use Rattle.distance_values.proofs.store.coupling.Goals as goal

pub returns : goal.returns
returns c =
    let S = c.args.store.now in
    let a = get_or S.starts.now c.args.k 0 in
    let b = a + get_or S.lengths.now c.args.k 0 in
    (part_is a b S.places.now (omega arith), part_is a b S.masses.now (omega arith))
