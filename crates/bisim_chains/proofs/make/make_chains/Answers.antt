-- A refusal leaves all as it was; else the chains are laid.
use Rattle.bisim_chains.proofs.Making.{unmade, sides, as_made}
use Rattle.bisim_chains.proofs.make.make_chains.Goals as goal

pub returns-in_err-bisim_refusal-clause-outcome : goal.returns-in_err-bisim_refusal-clause-outcome
returns-in_err-bisim_refusal-clause-outcome c = unmade c.args.left.now c.args.left_store.now c.args.right.now c.args.right_store.now c.args.rest c.from_residual.result _ c.from_residual.ensures.1 c.in_err-bisim_refusal.ensures

pub lay_chains-requires-clause-left_side : goal.lay_chains-requires-clause-left_side
lay_chains-requires-clause-left_side c = (sides c.args.left.now c.args.left_store.now c.args.right.now c.args.right_store.now c.args.rest c.in_ok-bisim_refusal.ensures).0

pub lay_chains-requires-clause-right_side : goal.lay_chains-requires-clause-right_side
lay_chains-requires-clause-right_side c = (sides c.args.left.now c.args.left_store.now c.args.right.now c.args.right_store.now c.args.rest c.in_ok-bisim_refusal.ensures).1

pub returns-clause-outcome : goal.returns-clause-outcome
returns-clause-outcome c = as_made c.args.left.now c.args.left_store.now c.args.right.now c.args.right_store.now c.args.rest c.in_ok-bisim_refusal.ensures _ c.lay_chains.ensures.outcome
