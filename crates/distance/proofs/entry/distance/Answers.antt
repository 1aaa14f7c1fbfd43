-- What `measure` leaves and `hand_out` gives.
use Rattle.chain_theory.specs.Lent.{of_chain}
use Rattle.distance.proofs.Concluding.{concludes}
use Rattle.distance.proofs.entry.distance.Goals as goal

pub returns-clause-ends : goal.returns-clause-ends
returns-clause-ends c =
    let a = c.args in
    let s = a.scratch.now in
    concludes a.left.now.shape (of_chain a.left.now) a.right.now.shape (of_chain a.right.now) a.goal.gamma a.goal.options s.lefts.now s.rights.now s.codes.now s.places.now s.masses.now a.records.now c.measure-told.ensures.measured c.hand_out.ensures
