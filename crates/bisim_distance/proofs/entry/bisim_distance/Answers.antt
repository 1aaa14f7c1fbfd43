-- What `measure` leaves and `hand_out` gives.
use Rattle.bisim_core.specs.Data.{columns_of}
use Rattle.chain_theory.specs.Lent.{of_store}
use Rattle.bisim_distance.proofs.Concluding.{concludes}
use Rattle.bisim_distance.proofs.entry.bisim_distance.Goals as goal

pub returns-clause-ends : goal.returns-clause-ends
returns-clause-ends c =
    let a = c.args in
    let s = a.scratch.now in
    concludes a.left.now.model.shape (columns_of a.left.now.model) a.left.now.state.0 a.left.now.observations.now (of_store a.left_chain.now) a.right.now.model.shape (columns_of a.right.now.model) a.right.now.state.0 a.right.now.observations.now (of_store a.right_chain.now) a.goal.gamma a.goal.options s.lefts.now s.rights.now s.codes.now s.places.now s.masses.now a.records.now c.measure-told.ensures.measured c.hand_out.ensures
