-- The invariant: the rates passed are divided, the rest as they were.
use Rattle.std.proofs.Common.{◌≡◌, map}
use lib.Ieee.{Float, binary64, div}
use Rattle.numbers.proofs.Over.{over}
use Rattle.epsdelta_jumps.proofs.rates.divide.Given as goal

abbrev pub invariant-loop-p : goal.invariant-loop-p
invariant-loop-p l = l.rates ≡ over (map (λ (p : Float). div binary64 p l.x) l.initial.rates) l.p-index l.initial.rates
