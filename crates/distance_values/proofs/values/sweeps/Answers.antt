-- `values::sweeps` meets its contract: what cannot be read leaves the values as they were, and otherwise the sweeps go over them (Answers).
use mathlib.Core.Path.{refl}
use lib.ListN.{length}
use Rattle.distance_values.proofs.Answers.{readable, evaluates}
use Rattle.distance_values.proofs.values.sweeps.Goals as goal

pub sweeps_in-requires : goal.sweeps_in-requires
sweeps_in-requires c =
    let a = c.args in
    let (p1, p2) = readable a.limit a.of.now.policy.store.starts.now a.of.now.policy.store.lengths.now a.of.now.policy.store.places.now a.of.now.policy.store.masses.now a.of.now.cost.now a.of.now.policy.gamma a.tol a.value.now (length a.value.now) c.if-n-of.false refl c.held.ensures c.if-not-held.false in
    record { holds = p1; value_in_bounds = p2 }

pub returns : goal.returns
returns c =
    let a = c.args in
    evaluates a.limit a.of.now.policy.store.starts.now a.of.now.policy.store.lengths.now a.of.now.policy.store.places.now a.of.now.policy.store.masses.now a.of.now.cost.now a.of.now.policy.gamma a.tol a.value.now (length a.value.now) c.if-n-of.false refl c.held.ensures c.if-not-held.false c.sweeps_in.ensures
