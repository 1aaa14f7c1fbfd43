-- `numbers::clear_bit` meets its contract: the byte and all but the mask is the byte without that bit, and past the end there is no byte.
use native.Mathlib.Omega.{arith}
use Rattle.numbers.proofs.Masks.{below_eight}
use Rattle.numbers.proofs.clear_bit.Goals as goal

pub overflow_cast-mask : goal.overflow_cast-mask
overflow_cast-mask c = omega (arith, below_eight c.args.i)

pub overflow_shl-mask : goal.overflow_shl-mask
overflow_shl-mask c = below_eight c.args.i
