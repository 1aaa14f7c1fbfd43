use native.Mathlib.Omega.{arith}
use Rattle.distance_contributions.proofs.Records.{weighing_size, weighing_on, weighing_ends}
use Rattle.distance_contributions.proofs.listing.weigh.Goals as goal

pub loop-k-preserved : goal.loop-k-preserved
loop-k-preserved c =
    let a = c.args in
    weighing_on a.of.now.pairs.lefts.now a.of.now.pairs.rights.now a.of.now.left.now a.of.now.right.now a.of.now.spent.now c.loop-k.invariant (let s = weighing_size a.of.now.pairs.lefts.now a.of.now.pairs.rights.now a.of.now.left.now a.of.now.right.now a.of.now.spent.now c.loop-k.invariant in let h = c.loop-k-test.true in omega arith) c.record_of.ensures

pub returns : goal.returns
returns c =
    let a = c.args in
    weighing_ends a.of.now.pairs.lefts.now a.of.now.pairs.rights.now a.of.now.left.now a.of.now.right.now a.of.now.spent.now c.loop-k.invariant (let s = weighing_size a.of.now.pairs.lefts.now a.of.now.pairs.rights.now a.of.now.left.now a.of.now.right.now a.of.now.spent.now c.loop-k.invariant in let h = c.loop-k-test.false in omega arith)
