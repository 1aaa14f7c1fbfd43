use Rattle.bisim_edges.proofs.Joins.{joined_none}
use Rattle.bisim_edges.proofs.edges.join_runs.Goals as goal

pub returns-in_default : goal.returns-in_default
returns-in_default c = joined_none _ _ _ _ c.in_default.ensures.cases
