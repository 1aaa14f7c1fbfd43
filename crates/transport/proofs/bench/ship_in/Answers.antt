-- `bench::ship_in` meets its contract: the rounds on the links, the capacities that these keep, and the plan of what is left (Carries).
use mathlib.Core.Path.{◌≡◌, refl}
use Prim.Native.Nat.{◌+◌}
use lib.ListN.{length}
use Rattle.transport_theory.proofs.Sending.{sent, send}
use Rattle.transport.proofs.Storing.{sent_on}
use Rattle.transport.proofs.Carries.{storable, plannable, planned, network_left}
use Rattle.transport.proofs.bench.ship_in.Goals as goal
use Rattle.transport.proofs.bench.ship_in.Goals.{After-ship_rows}

pub store_links-requires : goal.store_links-requires
store_links-requires c = storable c.requires

-- the rounds began with the network's own node lists
gone : (c : After-ship_rows) → sent c.ship_rows.result c.ship_rows.new.caps c.ship_rows.new.starts c.ship_rows.new.list ≡ send c.args.of.now.left.now c.args.of.now.right.now c.args.links.now.heads.now c.args.caps.now c.args.links.now.prices.now c.args.net.now.starts c.args.net.now.list
gone c = let M = c.args.of.now in sent_on M.left.now M.right.now c.args.links.now.heads.now c.args.caps.now c.args.links.now.prices.now c.args.net.now (length M.left.now + length M.right.now + 2) c.store_links.ensures c.ship_rows.ensures

pub write_plan-requires : goal.write_plan-requires
write_plan-requires c = plannable c.requires _ (gone (goal.at.write_plan-requires c).After-ship_rows) c.ship_rows.auto.caps

pub returns-clause-transported : goal.returns-clause-transported
returns-clause-transported c = planned c.requires _ (gone (goal.at.returns-clause-transported c).After-ship_rows) c.write_plan.ensures.spelled

pub returns-clause-network : goal.returns-clause-network
returns-clause-network c = network_left c.requires _ (gone (goal.at.returns-clause-network c).After-ship_rows) c.args.net.now refl refl c.store_links.ensures c.keep_caps.ensures c.ship_rows.auto.caps
