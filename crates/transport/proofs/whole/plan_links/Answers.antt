-- `whole::plan_links` meets its contract: the rounds on the links, and the plan of what they leave (Carries).
use Rattle.transport.proofs.Carries.{plannable, planned}
use Rattle.transport.proofs.whole.plan_links.Goals as goal

pub write_plan-requires : goal.write_plan-requires
write_plan-requires c = plannable c.requires c.args.starts.now c.ship_rows.ensures c.ship_rows.auto.caps

pub returns-clause-transported : goal.returns-clause-transported
returns-clause-transported c = planned c.requires c.args.starts.now c.ship_rows.ensures c.write_plan.ensures.spelled
