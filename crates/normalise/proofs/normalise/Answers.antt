-- A chain that fails decides the answer and leaves the observations; else both have an observation for each state, and these are scaled together.
use mathlib.Core.Path.{refl}
use native.Mathlib.Omega.{arith}
use Rattle.normalise.proofs.Scaling.{answer_refused, both_long, answer_scaled}
use Rattle.normalise.proofs.normalise.Goals as goal

pub returns-in_err-earlier-clause-outcome : goal.returns-in_err-earlier-clause-outcome
returns-in_err-earlier-clause-outcome c = answer_refused c.chain.ensures c.chain-2.ensures c.chain_refusal-of_left.ensures c.chain_refusal-of_right.ensures c.in_err-earlier.ensures c.from_residual.result _ c.from_residual.ensures.1 refl

pub slice_bounds-scale_together-end : goal.slice_bounds-scale_together-end
slice_bounds-scale_together-end c = let h = (both_long c.chain.ensures c.chain-2.ensures c.chain_refusal-of_left.ensures c.chain_refusal-of_right.ensures c.in_ok-earlier.ensures refl).0 in omega arith

pub slice_bounds-scale_together-end-2 : goal.slice_bounds-scale_together-end-2
slice_bounds-scale_together-end-2 c = let h = (both_long c.chain.ensures c.chain-2.ensures c.chain_refusal-of_left.ensures c.chain_refusal-of_right.ensures c.in_ok-earlier.ensures refl).1 in omega arith

pub returns-clause-outcome : goal.returns-clause-outcome
returns-clause-outcome c =
    answer_scaled c.chain.ensures c.chain-2.ensures c.chain_refusal-of_left.ensures c.chain_refusal-of_right.ensures c.in_ok-earlier.ensures refl
    _ _ _ c.scale_together.auto.left c.scale_together.auto.right c.scale_together.ensures
