-- `listing::contributions` meets its contract: listed where that can be done.
use mathlib.Core.Path.{sym, ◌∙◌}
use lib.ListN.{length}
use Rattle.distance_contributions.proofs.Records.{told, untold}
use Rattle.distance_theory.specs.Contributions.{listed}
use Rattle.distance_words.proofs.Listing.{observing, pairs_in}
use Rattle.distance_contributions.proofs.listing.contributions.Goals as goal

pub list-requires : goal.list-requires
list-requires c = sym c.listable.ensures ∙ c.if-not-listable.false

pub returns : goal.returns
returns c =
    let a = c.args in
    told (listed (observing a.of.now.left.now a.of.now.right.now (pairs_in a.of.now.pairs.lefts.now a.of.now.pairs.rights.now (length a.of.now.pairs.lefts.now))) a.options a.of.now.spent.now) c.listable.ensures c.if-not-listable.false c.list.ensures

pub returns-then-not-listable : goal.returns-then-not-listable
returns-then-not-listable c =
    let a = c.args in
    untold (listed (observing a.of.now.left.now a.of.now.right.now (pairs_in a.of.now.pairs.lefts.now a.of.now.pairs.rights.now (length a.of.now.pairs.lefts.now))) a.options a.of.now.spent.now) c.listable.ensures c.if-not-listable.true
