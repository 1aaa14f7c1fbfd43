-- `augment::augment` meets its contract: where there is a path, the push is the definition's.
use mathlib.Core.Path.{ap, ◌∙◌}
use lib.ListN.{take}
use lib.Ieee.{Float}
use Rattle.flow_theory.specs.Augment.{least}
use Rattle.flow_theory.proofs.Augmenting.{blocked_push, reached_push}
use Rattle.flow_core.proofs.augment.augment.Goals as goal

pub returns-in_default : goal.returns-in_default
returns-in_default c = blocked_push c.requires c.in_default.ensures

pub returns : goal.returns
returns c = reached_push c.requires c.walk.new.path c.in-Some.ensures _ _ (c.least-x.ensures ∙ ap (λ (x : Float). least c.args.caps.now x (take c.in-Some.len c.walk.new.path)) c.infinity.ensures) c.push_path.ensures
