-- `visits::visits_in` meets its contract: the rounds start with all mass in the first pair (Visiting.departing, occupies).
use Rattle.distance_values.proofs.Visiting.{departing, occupies}
use Rattle.distance_values.proofs.visits.visits_in.Goals as goal

pub rounds-requires : goal.rounds-requires
rounds-requires c =
    let a = c.args in
    let (p1, p2) = departing a.limit a.of.now.store.starts.now a.of.now.store.lengths.now a.of.now.store.places.now a.of.now.store.masses.now a.of.now.gamma a.spent.now c.requires.spent_len_bound (c.fill.ensures.after (λ y e. e)) c.requires.holds in
    record { holds = p1; next_value = p2 }

pub returns : goal.returns
returns c =
    let a = c.args in
    occupies a.limit a.of.now.store.starts.now a.of.now.store.lengths.now a.of.now.store.places.now a.of.now.store.masses.now a.of.now.gamma a.spent.now c.requires.spent_len_bound (c.fill.ensures.after (λ y e. e)) c.rounds.ensures
