-- `levels::levels` meets its contract. The loop's invariant: the definition's search, from these levels and what the queue still holds, comes to its end (Searching.Outer); each turn takes one node from the queue, and each node is queued once.
use Prim.Native.Nat.{◌-◌}
use lib.ListN.{length}
use Rattle.flow_theory.proofs.Searching.{Outer}
use Rattle.flow_core.proofs.levels.levels.Given as goal

abbrev pub invariant-loop-first : goal.invariant-loop-first
invariant-loop-first l = Outer l.course.net.heads.now l.course.net.list.now l.course.net.starts.now l.caps l.course.ends.source l.initial.level l.initial.queue.nodes l.level l.queue.nodes l.first l.queue.end

abbrev pub decreases-loop-first : goal.decreases-loop-first
decreases-loop-first l = length l.initial.queue.nodes - l.first
