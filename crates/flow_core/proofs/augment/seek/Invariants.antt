-- `augment::seek` meets its contract. The loop's invariant: the links before k do not lead to the level (Seeking).
use Rattle.flow_theory.proofs.Seeking.{Seeking}
use Rattle.flow_core.proofs.augment.seek.Given as goal

abbrev pub invariant-loop-k : goal.invariant-loop-k
invariant-loop-k l = Seeking l.phase.course.net.heads.now l.row l.caps l.phase.level.now l.want l.k
