-- By the ways that it ends.
use mathlib.Core.Path.{ap, ◌∙◌}
use Rattle.chain_theory.specs.Lent.{of_chain}
use Rattle.bisim_checks.specs.Rest.{of_rest}
use Rattle.distance_theory.specs.Refusal.{distance_refusal as refusal_of}
use Rattle.distance.proofs.Concluding.{measure_refused, measure_ran}
use Rattle.distance.proofs.measure.measure.Goals as goal

pub returns-in_err-distance_refusal-clause-measured : goal.returns-in_err-distance_refusal-clause-measured
returns-in_err-distance_refusal-clause-measured c =
    let a = c.args in
    let q = a.of.now in
    let s = a.scratch.now in
    measure_refused q.left.shape (of_chain q.left) q.right.shape (of_chain q.right) q.goal.gamma q.goal.options s.lefts.now s.rights.now s.codes.now s.places.now s.masses.now a.records
    c.from_residual.result _ c.from_residual.ensures.1 (c.in_err-distance_refusal.ensures ∙ ap (of_rest (refusal_of q.left.shape (of_chain q.left) q.right.shape (of_chain q.right))) c.new-rest.ensures)

pub returns-clause-measured : goal.returns-clause-measured
returns-clause-measured c =
    let a = c.args in
    let q = a.of.now in
    let s = a.scratch.now in
    measure_ran q.left.shape (of_chain q.left) q.right.shape (of_chain q.right) q.goal.gamma q.goal.options s.lefts.now s.rights.now s.codes.now s.places.now s.masses.now a.records
    (c.in_ok-distance_refusal.ensures ∙ ap (of_rest (refusal_of q.left.shape (of_chain q.left) q.right.shape (of_chain q.right))) c.new-rest.ensures) c.run.ensures.ran
