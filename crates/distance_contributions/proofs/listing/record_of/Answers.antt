-- `listing::record_of` meets its contract.
use mathlib.Core.Path.{ap}
use lib.ListN.{get_or}
use lib.Ieee.{nan}
use Rattle.distance_contributions.proofs.Records.{with_gap}
use Rattle.distance_contributions.proofs.listing.record_of.Goals as goal

pub returns : goal.returns
returns c =
    let a = c.args in
    ap (with_gap (get_or a.of.now.pairs.lefts.now a.k 0) (get_or a.of.now.pairs.rights.now a.k 0) (get_or a.of.now.spent.now a.k nan)) c.apart-gap.ensures
