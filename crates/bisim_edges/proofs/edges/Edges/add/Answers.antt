-- A sum that is zero leaves the lists; else the triple goes to its place as its number.
use Rattle.std.proofs.Common.{refl}
use Rattle.bisim_edges.proofs.Numbers.{numbers_set}
use Rattle.bisim_edges.proofs.Joins.{not_pushed, one_pushed}
use Rattle.bisim_edges.proofs.edges.Edges.add.Goals as goal

pub returns-then-sum-clause-added : goal.returns-then-sum-clause-added
returns-then-sum-clause-added c = not_pushed _ _ _ _ _ c.if-sum.true

pub returns-clause-added : goal.returns-clause-added
returns-clause-added c = one_pushed _ _ _ _ _ c.if-sum.false _ (numbers_set _ _ _) _ refl
