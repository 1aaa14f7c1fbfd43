-- `visits::visits` meets its contract: what cannot be read leaves the list as it was, and otherwise the time spent goes over it (Answers).
use mathlib.Core.Path.{refl}
use lib.ListN.{length}
use Rattle.distance_values.proofs.Answers.{visitable, occupies}
use Rattle.distance_values.proofs.visits.visits.Goals as goal

pub visits_in-requires : goal.visits_in-requires
visits_in-requires c =
    let a = c.args in
    let (p1, p2) = visitable a.limit a.of.now.store.starts.now a.of.now.store.lengths.now a.of.now.store.places.now a.of.now.store.masses.now a.of.now.gamma a.spent.now (length a.spent.now) c.if-n-gt4096.false refl c.held.ensures c.if-not-held.false in
    record { holds = p1; spent_len_bound = p2 }

pub returns : goal.returns
returns c =
    let a = c.args in
    occupies a.limit a.of.now.store.starts.now a.of.now.store.lengths.now a.of.now.store.places.now a.of.now.store.masses.now a.of.now.gamma a.spent.now (length a.spent.now) c.if-n-gt4096.false refl c.held.ensures c.if-not-held.false c.visits_in.ensures
