use Rattle.distance_contributions.proofs.Records.{recording_on}
use Rattle.distance_contributions.proofs.listing.records_of.Goals as goal

pub loop-i-preserved : goal.loop-i-preserved
loop-i-preserved c =
    let a = c.args in
    recording_on a.of.now.pairs.lefts.now a.of.now.pairs.rights.now a.of.now.left.now a.of.now.right.now a.of.now.spent.now c.loop-i.invariant c.requires.chosen_len_bound c.loop-i-test.true c.record_of.ensures
