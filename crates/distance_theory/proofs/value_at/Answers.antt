use Rattle.std.proofs.Common.{rules}
use lib.Ieee.{of_bits, of_fields, round}
use Rattle.distance_theory.proofs.value_at.Goals as goal

pub returns : goal.returns
unfolding of_bits of_fields round
returns c = search rules
