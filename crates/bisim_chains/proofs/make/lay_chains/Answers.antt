-- The rate is the common one, and what is laid and scaled is the chains of the definition.
use mathlib.Core.Path.{refl}
use native.Mathlib.Omega.{arith}
use Rattle.bisim_chains.proofs.Making.{rate_is, not_refused, not_turned_back, cut, all_made}
use Rattle.bisim_chains.proofs.make.lay_chains.Goals as goal

pub returns-in_err-rate-clause-outcome : goal.returns-in_err-rate-clause-outcome
returns-in_err-rate-clause-outcome c = absurd (not_refused c.requires.left_side c.requires.right_side _ c.in_err-rate.ensures)

pub returns-in_err-first-clause-outcome : goal.returns-in_err-first-clause-outcome
returns-in_err-first-clause-outcome c =
    let P = c.requires.left_side in
    absurd (not_turned_back P _ _ (rate_is P c.requires.right_side _ c.in_ok-rate.ensures) _ _ c.in_err-first.ensures.outcome _ refl)

pub returns-in_err-second-clause-outcome : goal.returns-in_err-second-clause-outcome
returns-in_err-second-clause-outcome c =
    let Q = c.requires.right_side in
    absurd (not_turned_back Q _ _ (rate_is c.requires.left_side Q _ c.in_ok-rate.ensures) _ _ c.in_err-second.ensures.outcome _ refl)

pub slice_bounds-scale_together-end : goal.slice_bounds-scale_together-end
slice_bounds-scale_together-end c = let h = (cut c.requires.left_side c.requires.right_side c.in_ok-rate.ensures c.in_ok-first.ensures.outcome c.in_ok-second.ensures.outcome).0 in omega arith

pub slice_bounds-scale_together-end-2 : goal.slice_bounds-scale_together-end-2
slice_bounds-scale_together-end-2 c = let h = (cut c.requires.left_side c.requires.right_side c.in_ok-rate.ensures c.in_ok-first.ensures.outcome c.in_ok-second.ensures.outcome).1 in omega arith

pub returns-clause-outcome : goal.returns-clause-outcome
returns-clause-outcome c = all_made c.requires.left_side c.requires.right_side c.in_ok-rate.ensures c.in_ok-first.ensures.outcome c.in_ok-second.ensures.outcome _ _ _ c.scale_together.ensures
