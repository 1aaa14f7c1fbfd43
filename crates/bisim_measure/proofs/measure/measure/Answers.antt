-- A refusal leaves all as it was; else the chains are run, and their lists cleared.
use mathlib.Core.Path.{◌≡◌, ap, ◌∙◌}
use mathlib.Core.List.{List}
use Prim.Native.Nat.{ℕ}
use lib.Ieee.{Float}
use Rattle.bisim_core.specs.Data.{columns_of}
use Rattle.chain_theory.specs.Columns.{ChainColumns}
use Rattle.chain_theory.specs.Lent.{of_store}
use Rattle.chain_theory.specs.declared.ChainShape.{ChainShape}
use Rattle.chains.specs.Observing.{of_both}
use Rattle.distance_theory.specs.declared.MetricOptions.{MetricOptions}
use Rattle.distance_words.specs.Told.{Ran}
use Rattle.distance_words.proofs.Run.{ran_of}
use Rattle.bisim_checks.specs.Rest.{of_rest}
use Rattle.bisim_chains.specs.Made.{bisim_made}
use Rattle.bisim_measure.specs.Measure.{measuring}
use Rattle.bisim_measure.proofs.Measuring.{turned_back, measured}
use Rattle.bisim_measure.proofs.measure.measure.Goals as goal

equal_measurings : {x : Ran} {H H' K K' : ChainShape} {A A' B B' C C' D D' : ChainColumns} (γ : Float) (o : MetricOptions) (l r c p : List ℕ) (m : List Float)
    → H ≡ H' → A ≡ A' → K ≡ K' → B ≡ B' → C ≡ C' → D ≡ D' → x ≡ ran_of H A K B γ o l r c p m → measuring x C D ≡ measuring (ran_of H' A' K' B' γ o l r c p m) C' D'
equal_measurings γ o l r c p m h a k b f g e = rw (e, h, a, k, b, f, g)

pub returns-in_err-first-clause-measured : goal.returns-in_err-first-clause-measured
returns-in_err-first-clause-measured c =
    let a = c.args in
    let s = a.scratch.now in
    let made = c.in_err-first.ensures.outcome ∙ ap (of_rest (of_both bisim_made a.left.now a.left_chain.now a.right.now a.right_chain.now)) c.new-rest.ensures in
    turned_back a.left.now.model.shape (columns_of a.left.now.model) a.left.now.state.0 a.left.now.observations.now (of_store a.left_chain.now) a.right.now.model.shape (columns_of a.right.now.model) a.right.now.state.0 a.right.now.observations.now (of_store a.right_chain.now)
    a.goal.gamma a.goal.options s.lefts.now s.rights.now s.codes.now s.places.now s.masses.now a.records
    _ _ _ made c.from_residual.result c.from_residual.ensures.1

pub returns-clause-measured : goal.returns-clause-measured
returns-clause-measured c =
    let a = c.args in
    let s = a.scratch.now in
    let (u, v) = c.make_chains.ensures.same_lists in
    let (h, d) = c.chain.ensures in
    let (k, e) = c.chain-2.ensures in
    let made = c.in_ok-first.ensures.outcome ∙ ap (of_rest (of_both bisim_made a.left.now a.left_chain.now a.right.now a.right_chain.now)) c.new-rest.ensures in
    let told = equal_measurings a.goal.gamma a.goal.options s.lefts.now s.rights.now s.codes.now s.places.now s.masses.now h d k e c.clear_chain.ensures.cleared c.clear_chain-2.ensures.cleared c.run-told.ensures.ran in
    measured a.left.now.model.shape (columns_of a.left.now.model) a.left.now.state.0 a.left.now.observations.now (of_store a.left_chain.now) a.right.now.model.shape (columns_of a.right.now.model) a.right.now.state.0 a.right.now.observations.now (of_store a.right_chain.now)
    a.goal.gamma a.goal.options s.lefts.now s.rights.now s.codes.now s.places.now s.masses.now a.records
    _ _ _ _ made u.4 u.5 u.6 u.7 v.4 v.5 v.6 v.7 _ told
