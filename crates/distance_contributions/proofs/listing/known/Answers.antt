-- Enough states, and each below the count.
use Rattle.std.proofs.Common.{length}
use borrow.Author.Tests.{le-leb}
use Rattle.distance_contributions.proofs.listing.known.Goals as goal

pub returns-then-n-states : goal.returns-then-n-states
returns-then-n-states c = rw (le-leb c.args.n (length c.args.states.now) c.if-n-states.true) c.all_below.ensures
