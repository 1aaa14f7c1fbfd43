-- The work space is all zero.
use Rattle.std.proofs.Common.{arith}
use Rattle.bisim_edges.proofs.Plans.{zeros}
use Rattle.bisim_edges.proofs.planner.plan_with.Goals as goal

pub whole_as_front-plan_in : goal.whole_as_front-plan_in
whole_as_front-plan_in g c = let m = c.requires.1 in (c.requires.0, omega arith)

pub plan_in-requires : goal.plan_in-requires
plan_in-requires g c = let p = c.requires in let n = p.0 in let m = p.1 in zeros c.args.draft.now.given _ (omega arith) n
