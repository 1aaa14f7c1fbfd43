-- `listing::weigh` meets its contract. The invariant: the contributions of the pairs below k are there (Records.Weighing).
use Rattle.distance_contributions.proofs.Records.{Weighing}
use Rattle.distance_contributions.proofs.listing.weigh.Given as goal

abbrev pub invariant-loop-k : goal.invariant-loop-k
invariant-loop-k l = Weighing l.of.pairs.lefts.now l.of.pairs.rights.now l.of.left.now l.of.right.now l.of.spent.now l.initial.shares l.shares l.k
