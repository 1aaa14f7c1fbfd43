use native.Mathlib.Omega.{arith}
use Rattle.distance_values.proofs.Sweeping.{pair_coupled, pair_leads, sweeping_on, sweeping_ends}
use Rattle.distance_values.proofs.values.sweep.Goals as goal

pub coupling-requires : goal.coupling-requires
coupling-requires c = let (a, b, d, e) = pair_coupled c.loop-k.invariant c.requires.holds (omega arith) in record { indexed = (a, b); stored = (d, e) }

pub expected-requires : goal.expected-requires
expected-requires c = let (p, q) = pair_leads c.loop-k.invariant c.requires.holds (omega arith) c.coupling.ensures in record { leads = p; alike = q }

pub loop-k-preserved : goal.loop-k-preserved
loop-k-preserved c = sweeping_on c.loop-k.invariant (omega arith) c.coupling.ensures c.expected.ensures c.apart.ensures c.larger-delta.ensures

pub returns : goal.returns
returns c = sweeping_ends c.loop-k.invariant (omega arith)
