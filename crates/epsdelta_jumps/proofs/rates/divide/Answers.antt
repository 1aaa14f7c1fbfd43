-- A turn divides the next.
use lib.Ieee.{Float, binary64, div}
use Rattle.parts.proofs.Maps.{map_next}
use Rattle.epsdelta_jumps.proofs.rates.divide.Goals as goal

pub loop-p-preserved : goal.loop-p-preserved
loop-p-preserved c = map_next (λ (p : Float). div binary64 p c.args.x) c.args.rates.now c.loop-p.rates c.loop-p.p-index _ c.loop-p-test.true c.loop-p.invariant
