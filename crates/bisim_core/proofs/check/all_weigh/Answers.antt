use Rattle.std.proofs.Common.{◌∙◌}
use lib.Ieee.{nan}
use Rattle.numbers.specs.Real.{least_weight, greatest_joined}
use Rattle.numbers.specs.Bounds.{within}
use Rattle.numbers.proofs.Alls.{all_take}
use Rattle.bisim_core.proofs.check.all_weigh.Goals as goal

pub returns : goal.returns
returns c = let m = c.args.model.now in c.hold_all.ensures ∙ all_take (within least_weight greatest_joined) m.edge_weights.now nan m.shape.edges c.requires
