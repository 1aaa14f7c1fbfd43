-- `Bench::run` meets its contract: what was asked holds at each place, and each test that is answered leads on (Resuming).
use Rattle.epsdelta_sweeps.specs.Place.{Same}
use Rattle.epsdelta_sweeps.specs.Leading.{place_of, FromAsked, left}
use mathlib.Core.Bool.{true}
use Rattle.epsdelta_sweeps.proofs.network.Bench.run.Given as goal

abbrev pub invariant-loop-next : goal.invariant-loop-next
invariant-loop-next l = FromAsked l.terms l.initial.memory l.fn.first l.memory l.asked.s l.asked.t l.asked.back l.asked.struck true × Same l.initial.memory l.memory

abbrev pub decreases-loop-next : goal.decreases-loop-next
decreases-loop-next l = left l.terms l.memory (place_of l.asked) l.asked.back
