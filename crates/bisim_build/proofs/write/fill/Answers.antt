-- The offsets go over the front of their list.
use Rattle.build_theory.proofs.Steps.{edges_in}
use Rattle.build_theory.proofs.Offsets.{offsets_cut}
use Rattle.build_theory.proofs.Planning.{numbers}
use Rattle.bisim_build.proofs.write.fill.Goals as goal

pub returns-clause-offsets : goal.returns-clause-offsets
returns-clause-offsets c U = offsets_cut c.args.states (edges_in (numbers c.args.triples.now) U) c.args.store.now.offsets.now _ c.requires.3 (c.write_offsets.ensures U)
