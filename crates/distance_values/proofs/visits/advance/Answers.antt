use native.Mathlib.Omega.{arith}
use Rattle.distance_values.proofs.Visiting.{moving_starts, current_size, next_size, moving_on, moving_ends}
use Rattle.distance_values.proofs.visits.advance.Goals as goal

pub loop-k-init : goal.loop-k-init
loop-k-init c = moving_starts c.requires

pub bounds-current-k : goal.bounds-current-k
bounds-current-k c = let p = c.requires in let s = current_size c.requires c.loop-k.invariant in let n = next_size c.requires c.loop-k.invariant in let l = c.loop-k-test.true in omega arith

pub loop-k-preserved : goal.loop-k-preserved
loop-k-preserved c = moving_on c.requires c.loop-k.invariant (let p = c.requires in let n = next_size c.requires c.loop-k.invariant in let l = c.loop-k-test.true in omega arith)

pub shape_of-current : goal.shape_of-current
shape_of-current c = current_size c.requires c.loop-k.invariant

pub shape_of-next : goal.shape_of-next
shape_of-next c = next_size c.requires c.loop-k.invariant

pub returns : goal.returns
returns c = moving_ends c.requires c.loop-k.invariant (let p = c.requires in let n = next_size c.requires c.loop-k.invariant in let l = c.loop-k-test.false in omega arith)
