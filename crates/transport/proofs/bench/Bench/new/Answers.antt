use mathlib.Core.Path.{ap}
use lib.ListN.{replicate}
use Rattle.numbers.specs.Real.{nought}
use Rattle.flow.specs.declared.network.FlowNetwork.{FlowNetwork}
use Rattle.transport.specs.declared.bench.Bench.{Bench}
use Rattle.transport.proofs.bench.Bench.new.Goals as goal

pub returns : goal.returns
returns c = ap (λ (N : FlowNetwork). let b : Bench = record { net = N; heads = replicate 2176 0; caps = replicate 2176 nought; prices = replicate 2176 nought } in b) c.empty.ensures
