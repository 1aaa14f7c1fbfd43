-- The invariant: the first s offsets are written, and p edges have a source below s (`Offsetting`): the triples rise, so the next offset is found from p on.
use Rattle.build_theory.proofs.Offsets.{Offsetting}
use Rattle.build_theory.proofs.Planning.{numbers}
use Rattle.bisim_build.proofs.write.write_offsets.Given as goal

abbrev pub invariant-loop-s : goal.invariant-loop-s
invariant-loop-s l = Offsetting (numbers l.triples) l.initial.offsets l.offsets l.s l.p
