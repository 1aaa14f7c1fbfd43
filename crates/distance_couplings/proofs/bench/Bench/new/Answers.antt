use mathlib.Core.Path.{ap}
use lib.ListN.{replicate}
use Rattle.numbers.specs.Real.{nought}
use Rattle.transport.specs.declared.bench.Bench as lower
use Rattle.distance_couplings.specs.declared.bench.Bench.{Bench}
use Rattle.distance_couplings.proofs.bench.Bench.new.Goals as goal

pub returns : goal.returns
returns c = ap (λ (b : lower.Bench). let d : Bench = record { costs = replicate 1024 nought; fitted = replicate 32 nought; moving = record { bench = b; rows = replicate 1024 0; columns = replicate 1024 0 } } in d) c.new.ensures
