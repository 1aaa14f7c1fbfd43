-- `levels::scan` meets its contract. The loop's invariant: the definition's scan of the links still to come, from these levels and this queue, gives the end (Scanning.Inner).
use Rattle.flow_theory.proofs.Scanning.{Inner}
use Rattle.flow_core.proofs.levels.scan.Given as goal

abbrev pub invariant-loop-link : goal.invariant-loop-link
invariant-loop-link l = Inner l.net.heads.now l.link-items l.caps l.u l.initial.level l.initial.queue.nodes l.level l.queue.nodes l.initial.queue.end l.end l.link-index
