-- The invariant: the first i entries of each column are those of the edges (`Writing`).
use Rattle.build_theory.proofs.Planning.{numbers}
use Rattle.bisim_build.proofs.Writes.{Writing}
use Rattle.bisim_build.proofs.write.write_edges.Given as goal

abbrev pub invariant-loop-i : goal.invariant-loop-i
invariant-loop-i l = Writing (numbers l.triples) l.initial.labels l.initial.targets l.labels l.targets l.i
