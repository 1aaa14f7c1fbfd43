-- The count given comes first; the rest is that of a plan with work space for few or for as many as there may be.
use Rattle.bisim_edges.proofs.Plans.{asked_of, too_many}
use Rattle.bisim_edges.proofs.planner.plan.Goals as goal

pub returns-then-given-gt4096-clause-plan : goal.returns-then-given-gt4096-clause-plan
returns-then-given-gt4096-clause-plan c = too_many (asked_of c.args.draft.now c.args.short c.args.lists.now) c.if-given-gt4096.true
