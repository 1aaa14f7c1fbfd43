-- `search::first` meets its contract. The loop's invariant: r is the first from j on.
use mathlib.Core.Bool.{true, false}
use Prim.Native.Nat.{◌≤◌}
use Rattle.flow_direct.proofs.Finding.{FirstAfter}
use Rattle.flow_direct.proofs.search.first.Given as goal

abbrev pub invariant-loop-j : goal.invariant-loop-j
invariant-loop-j g l = (l.j ≤ l.n) × FirstAfter l.n l.j l.r (λ i. goal.F-post g l.test i true) (λ i. goal.F-post g l.test i false)
