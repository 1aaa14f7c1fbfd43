use mathlib.Core.Path.{refl}
use Prim.Native.Nat.{ℕ, ◌≤◌, ◌-◌, ◌*◌, ◌/◌}
use native.Mathlib.Omega.{arith}
use native.Mathlib.Nat.{mul-le-mul}
use Rattle.distance_theory.proofs.Index.{narrowing_start, narrowing_on, narrowing_end}
use Rattle.distance_pairs.proofs.index.goes_by.Goals as goal

-- a half, or nothing
some : (half b : ℕ) → b ≤ 1 → half * b ≤ half
some half b h = let m : half * b ≤ half * 1 = mul-le-mul (let z : half ≤ half = omega arith in z) h in omega arith

pub loop-n-init : goal.loop-n-init
loop-n-init c = (omega arith, narrowing_start c.args.list.now c.args.key _ refl)

pub loop-n-preserved : goal.loop-n-preserved
loop-n-preserved c =
    let h = c.loop-n-test.true in
    let I = c.loop-n.invariant in
    let m = some (c.loop-n.n - c.loop-n.n / 2) _ c.below.ensures.1 in
    (omega arith, narrowing_on c.args.list.now c.args.key _ c.loop-n.lo c.loop-n.n _ h c.below.ensures.0 I.1)

pub returns : goal.returns
returns c =
    let h = c.loop-n-test.false in
    let I = c.loop-n.invariant in
    (narrowing_end c.args.list.now c.args.key _ c.loop-n.lo c.loop-n.n h I.1, omega arith)
