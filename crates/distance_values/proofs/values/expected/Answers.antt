use mathlib.Core.Path.{refl}
use native.Mathlib.Omega.{arith}
use Rattle.distance_theory.proofs.Summing.{adding_starts}
use Rattle.distance_values.proofs.Sweeping.{share_on, shares_end}
use Rattle.distance_values.proofs.values.expected.Goals as goal

pub loop-i-init : goal.loop-i-init
loop-i-init c = adding_starts refl refl

pub bounds-values-place : goal.bounds-values-place
bounds-values-place c = c.requires.leads.each c.loop-i.i c.loop-i-test.true

pub loop-i-preserved : goal.loop-i-preserved
loop-i-preserved c = share_on c.loop-i.invariant c.loop-i-test.true (let e = c.requires.alike in let l = c.loop-i-test.true in omega arith)

pub returns : goal.returns
returns c = shares_end c.loop-i.invariant (let l = c.loop-i-test.false in omega arith)
