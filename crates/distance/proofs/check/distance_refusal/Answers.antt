-- Of the checks of either chain and of the rest the first that fails.
use mathlib.Core.List.{[], ◌∷◌}
use Rattle.chain_theory.specs.Lent.{of_chain}
use Rattle.distance.proofs.Checking.{total}
use Rattle.distance.proofs.check.distance_refusal.Goals as goal

pub returns : goal.returns
returns c =
    let a = c.args in
    let q = a.of.now in
    total q.left.shape (of_chain q.left) q.right.shape (of_chain q.right) a.rest.goal.gamma a.rest.goal.options (a.rest.lefts ∷ a.rest.rights ∷ a.rest.codes ∷ []) a.rest.records
    c.chain_refusal-of_left.ensures c.chain_refusal-of_right.ensures c.rest_refusal.ensures c.earlier.ensures c.earlier-2.ensures
