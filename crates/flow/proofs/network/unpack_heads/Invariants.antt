-- `network::unpack_heads` meets its contract. The loop's invariant: the first i heads are taken from the links (Packing.Heading).
use Rattle.flow.proofs.Packing.{Heading}
use Rattle.flow.proofs.network.unpack_heads.Given as goal

abbrev pub invariant-loop-i : goal.invariant-loop-i
invariant-loop-i l = Heading l.links l.initial.heads l.heads l.i
