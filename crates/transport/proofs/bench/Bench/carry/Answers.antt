-- `bench::Bench::carry` meets its contract: the rows have 2,176 places each.
use Rattle.std.proofs.Common.{rules}
use Rattle.transport.proofs.Carries.{loadable}
use Rattle.transport.proofs.bench.Bench.carry.Goals as goal

pub carry_in-requires : goal.carry_in-requires
carry_in-requires c = loadable c.requires (search rules) (search rules) (search rules) (search rules)
