-- The rest of the line decides.
use Prim.Native.Nat.{◌-◌}
use mathlib.Core.Path.{◌≡◌}
use Rattle.card_layout.proofs.Steps.{line_laid}
use Rattle.card_layout.proofs.columns.line_laid.Given as goal

abbrev pub invariant-loop : goal.invariant-loop
invariant-loop l = line_laid (l.k - l.counter) l.rest ≡ line_laid l.k l.bytes
