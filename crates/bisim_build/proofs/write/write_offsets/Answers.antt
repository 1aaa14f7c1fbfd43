use Rattle.build_theory.proofs.Offsets.{offset_next, offsets_done}
use Rattle.bisim_build.proofs.write.write_offsets.Goals as goal

pub loop-s-preserved : goal.loop-s-preserved
loop-s-preserved c = offset_next c.loop-s.invariant c.requires.1 c.loop-s-test.true _ c.first_from-p.ensures

pub returns : goal.returns
returns c = offsets_done c.loop-s.invariant c.loop-s-test.false
