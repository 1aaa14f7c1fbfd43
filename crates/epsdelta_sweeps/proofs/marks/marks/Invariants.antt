-- The invariant: the bytes passed are those of the marks (Marking).
use Rattle.std.proofs.Common.{◌≡◌}
use Rattle.numbers.specs.Bits.{packed}
use Rattle.numbers.proofs.Over.{over}
use Rattle.epsdelta_theory.specs.Sweeps.{Task}
use Rattle.epsdelta_theory.specs.Sweeps as definition
use Rattle.epsdelta_sweeps.specs.Marked.{MarksOf}
use Rattle.epsdelta_sweeps.proofs.marks.marks.Given as goal

abbrev pub invariant-loop-k : goal.invariant-loop-k
invariant-loop-k l = (Q : Task) → MarksOf Q l.of → l.relation ≡ over (packed (definition.marks Q)) l.k l.initial.relation
