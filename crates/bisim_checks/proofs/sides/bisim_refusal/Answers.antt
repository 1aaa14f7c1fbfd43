-- The earliest of what each side and the rest are refused for.
use mathlib.Core.List.{[], ◌∷◌}
use Rattle.bisim_core.specs.Data.{columns_of}
use Rattle.chain_theory.specs.Lent.{of_store}
use Rattle.bisim_checks.proofs.Together.{total}
use Rattle.bisim_checks.proofs.sides.bisim_refusal.Goals as goal

pub returns : goal.returns
returns c =
    let l = c.args.left.now in
    let k = c.args.right.now in
    let r = c.args.rest in
    total l.model.shape (columns_of l.model) l.state.0 l.observations.now (of_store c.args.left_store.now) k.model.shape (columns_of k.model) k.state.0 k.observations.now (of_store c.args.right_store.now)
    r.goal.gamma r.goal.options (r.lefts ∷ r.rights ∷ r.codes ∷ []) r.records _ _ _ _ _
    c.side_refusal-of_left.ensures c.side_refusal-of_right.ensures c.rest_refusal-of_rest.ensures c.earlier.ensures c.earlier-2.ensures
