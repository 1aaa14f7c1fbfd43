-- The rest of the line, written behind what is written, makes the store what it has to be.
use Prim.Native.Nat.{◌*◌}
use mathlib.Core.Path.{◌≡◌}
use lib.ListN.{drop}
use lib.Seq.{sets}
use Rattle.card_layout.specs.Layout.{line}
use Rattle.card_report.proofs.lines.put_line.Given as goal

abbrev pub invariant-loop-k : goal.invariant-loop-k
invariant-loop-k l = sets l.out (6 * l.k) (line (drop l.k l.row)) ≡ sets l.initial.out 0 (line l.row)
