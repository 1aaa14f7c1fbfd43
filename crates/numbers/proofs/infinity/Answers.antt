-- `numbers::infinity` meets its contract: the bits of the constant compute to it.
use mathlib.Core.Path.{refl}
use lib.Ieee.{of_bits, of_fields}
use Rattle.numbers.proofs.infinity.Goals as goal

pub returns : goal.returns
unfolding of_bits of_fields
returns c = refl
