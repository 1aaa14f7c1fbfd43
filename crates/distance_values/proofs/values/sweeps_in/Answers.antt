use native.Mathlib.Omega.{arith}
use mathlib.Core.Path.{◌∙◌}
use Rattle.distance_values.proofs.Sweeping.{repeating_starts, still_held, repeating_on, repeating_settles, repeating_ends}
use Rattle.distance_values.proofs.values.sweeps_in.Goals as goal

pub loop-init : goal.loop-init
loop-init c = repeating_starts

pub sweep-requires : goal.sweep-requires
sweep-requires c = record { holds = still_held c.loop.invariant c.requires.holds; value_in_bounds = let s = c.loop.invariant.size in let l = c.requires.value_in_bounds in omega arith }

pub shape_of-value-then-sweep-tol : goal.shape_of-value-then-sweep-tol
shape_of-value-then-sweep-tol c = c.sweep.auto.value ∙ c.loop.invariant.size

pub returns-then-sweep-tol : goal.returns-then-sweep-tol
returns-then-sweep-tol c = repeating_settles c.loop.invariant c.loop-test.true c.sweep.ensures c.if-sweep-tol.true

pub loop-preserved : goal.loop-preserved
loop-preserved c = repeating_on c.loop.invariant c.loop-test.true c.sweep.ensures c.sweep.auto.value c.if-sweep-tol.false

pub shape_of-value : goal.shape_of-value
shape_of-value c = c.loop.invariant.size

pub returns : goal.returns
returns c = repeating_ends c.loop.invariant c.loop-test.false
