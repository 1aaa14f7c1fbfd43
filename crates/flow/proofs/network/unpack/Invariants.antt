-- `network::unpack` meets its contract. The loop's invariant: the first i places of each row are taken from the links (Running).
use lib.ListN.{length}
use Rattle.flow.proofs.Running.{Entered}
use Rattle.flow.proofs.network.unpack.Given as goal

abbrev pub invariant-loop-i : goal.invariant-loop-i
invariant-loop-i l = Entered l.links (length l.links) l.initial.heads l.initial.caps l.initial.costs l.heads l.caps l.costs l.i
