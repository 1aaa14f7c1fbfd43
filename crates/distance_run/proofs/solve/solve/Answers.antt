-- The rounds, from couplings that are laid.
use mathlib.Core.Path.{refl}
use lib.ListN.{length}
use Rattle.chain_theory.specs.Lent.{of_chain}
use Rattle.distance_run.proofs.Solving.{made, unmade, short, stopped}
use Rattle.distance_run.proofs.solve.solve.Goals as goal

pub returns-clause-solved : goal.returns-clause-solved
returns-clause-solved c =
    let a = c.args in
    let T = a.task.now in
    let s = a.store.now in
    made (length T.pairs.lefts.now) T.pairs.lefts.now T.pairs.rights.now T.pairs.codes.now (of_chain T.left) (of_chain T.right) T.cost.now T.gamma a.options a.starts.now s.lengths.now s.places.now s.masses.now a.values.now
    c.in_ok-lay_store.ensures.filled refl c.uneven.ensures c.if-uneven.false c.aim-near.ensures c.requires c.make_rounds.ensures.iterated

pub returns-then-options-eq0-clause-solved : goal.returns-then-options-eq0-clause-solved
returns-then-options-eq0-clause-solved c =
    let a = c.args in
    let T = a.task.now in
    let s = a.store.now in
    unmade (length T.pairs.lefts.now) T.pairs.lefts.now T.pairs.rights.now T.pairs.codes.now (of_chain T.left) (of_chain T.right) T.cost.now T.gamma a.options a.starts.now s.lengths.now s.places.now s.masses.now a.values.now
    c.in_ok-lay_store.ensures.filled refl c.uneven.ensures c.if-uneven.false c.if-options-eq0.true c.infinity.ensures

pub returns-in_err-lay_store-clause-solved : goal.returns-in_err-lay_store-clause-solved
returns-in_err-lay_store-clause-solved c =
    let a = c.args in
    let T = a.task.now in
    let s = a.store.now in
    stopped c.from_residual.result _ _ _ _ _ _ c.from_residual.ensures.1 c.in_err-lay_store.ensures.refusal
    (short (length T.pairs.lefts.now) T.pairs.lefts.now T.pairs.rights.now T.pairs.codes.now (of_chain T.left) (of_chain T.right) T.cost.now T.gamma a.options a.starts.now s.lengths.now s.places.now s.masses.now a.values.now c.in_err-lay_store.ensures.filled refl)
