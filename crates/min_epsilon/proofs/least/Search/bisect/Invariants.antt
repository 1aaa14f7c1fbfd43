-- The loop goes as the definition's halvings do (Halvings), and each run leaves every byte zero.
use Rattle.min_epsilon.specs.Outcome.{Cleared, alike}
use Rattle.min_epsilon.proofs.Halvings.{to_come, Going}
use Rattle.min_epsilon.proofs.least.Search.bisect.Given as goal

abbrev pub invariant-loop-hi : goal.invariant-loop-hi
invariant-loop-hi l =
    Cleared l.initial.relation l.relation × Going (alike l.self.sides.now l.self.rho) l.lo l.hi

abbrev pub decreases-loop-hi : goal.decreases-loop-hi
decreases-loop-hi l =
    to_come l.lo l.hi
