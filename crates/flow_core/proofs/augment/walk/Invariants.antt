-- `augment::walk` meets its contract. The loop's invariant: the definition's walk from this node, path and marks gives the end (Walking.Walking); each turn passes a link or rises a level, so `gauge` falls (Seeking).
use Rattle.flow_check.specs.Lent.{net_on}
use Rattle.flow_theory.proofs.Paths.{gauge}
use Rattle.flow_theory.proofs.Walking.{Walking, standing}
use Rattle.flow_core.proofs.augment.walk.Given as goal

abbrev pub invariant-loop-u : goal.invariant-loop-u
invariant-loop-u l = Walking (net_on l.phase.course) l.caps l.phase.level.now l.initial.next l.initial.path l.u l.len l.path l.next

abbrev pub decreases-loop-u : goal.decreases-loop-u
decreases-loop-u l = gauge (net_on l.phase.course) l.phase.level.now (standing l.u l.len l.path l.next)
