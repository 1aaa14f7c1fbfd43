-- The invariant: the pairs before pair i were followed. A turn follows one more; pair 4,097 ends the loop.
use Prim.Native.Nat.{◌-◌}
use Rattle.distance_theory.specs.Lent.{SamePairs}
use Rattle.distance_theory.proofs.Discovery.{DiscoversIn, Noting}
use Rattle.distance_pairs.proofs.discover.discover_in.Given as goal

abbrev pub invariant-loop-i : goal.invariant-loop-i
invariant-loop-i l =
    SamePairs l.initial.pairs l.pairs × Noting l.pairs × DiscoversIn l.left l.right l.initial.pairs l.i l.pairs

abbrev pub decreases-loop-i : goal.decreases-loop-i
decreases-loop-i l = 4096 - l.i
