-- `flow_theory::reverse` meets its contract: e ^ 1 is one more for an even number and one less for an odd one (Links.rev-xor).
use Rattle.flow_theory.proofs.Links.{rev_xor}
use Rattle.flow_theory.proofs.reverse.Goals as goal

pub returns : goal.returns
returns c = rev_xor c.args.e
