-- `listing::records_of` meets its contract. The invariant: the records of the first i chosen pairs are there (Records.Recording).
use Rattle.distance_contributions.proofs.Records.{Recording}
use Rattle.distance_contributions.proofs.listing.records_of.Given as goal

abbrev pub invariant-loop-i : goal.invariant-loop-i
invariant-loop-i l = Recording l.of.pairs.lefts.now l.of.pairs.rights.now l.of.left.now l.of.right.now l.of.spent.now l.chosen l.records l.i
