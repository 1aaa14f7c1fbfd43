-- `rows::Test::related` meets its contract: the bit's number is below 2^64 where there are at most 2,000 states.
use mathlib.Core.Path.{ap, ◌∙◌}
use Prim.Native.Nat.{◌≤◌}
use native.Mathlib.Nat.{mul-le-mul, mod-add-mod}
use native.Mathlib.Omega.{arith}
use Rattle.numbers.specs.Bits.{bit_at}
use Rattle.flow_links.proofs.rows.Test.related.Goals as goal

pub returns-clause-every : goal.returns-clause-every
returns-clause-every c = c.bit.ensures ∙ ap (bit_at c.args.self.now.relation.now) (mod-add-mod _ _ _)

pub returns-clause-bit : goal.returns-clause-bit
returns-clause-bit c few = let u : c.args.u ≤ 4294967295 = omega arith in c.bit.ensures ∙ ap (bit_at c.args.self.now.relation.now) (omega (arith, mul-le-mul u few))
