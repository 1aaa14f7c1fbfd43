-- The rest of the lines decides.
use Prim.Native.Nat.{◌-◌, ◌≤◌}
use mathlib.Core.Path.{◌≡◌}
use lib.ListN.{length}
use Rattle.card_layout.specs.Layout.{laid}
use Rattle.card_layout.proofs.columns.laid.Given as goal

abbrev pub invariant-loop : goal.invariant-loop
invariant-loop l = (length l.rest ≤ length l.bytes) × (laid (l.n - l.counter) l.k l.rest ≡ laid l.n l.k l.bytes)
