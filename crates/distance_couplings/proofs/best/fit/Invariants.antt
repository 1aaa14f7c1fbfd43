-- The invariant: the first j masses are fitted. A turn fits one more.
use mathlib.Core.Path.{◌≡◌}
use Prim.Native.Nat.{◌≤◌}
use mathlib.Core.List.{List, map}
use lib.Ieee.{Float, binary64, mul, div}
use lib.ListN.{length}
use Rattle.numbers.proofs.Over.{over}
use Rattle.distance_couplings.proofs.best.fit.Given as goal

-- masses times one number, divided by another
abbrev pub fitted : List Float → Float → Float → List Float
fitted qs a b = map (λ (x : Float). div binary64 (mul binary64 x a) b) qs

abbrev pub invariant-loop-j : goal.invariant-loop-j
invariant-loop-j l = (l.j ≤ length l.initial.fitted) × (length l.fitted ≡ length l.initial.fitted) × (l.fitted ≡ over (fitted l.qs l.left l.right) l.j l.initial.fitted)
