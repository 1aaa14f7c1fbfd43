-- A refusal leaves the lists; else the model is accepted and no list is short, and what `lay` leaves is the chain.
use mathlib.Core.Path.{refl}
use Rattle.bisim_core.proofs.Accepted.{accepted}
use Rattle.chains.proofs.Answers.{answer_refused, ready_to, answer_made}
use Rattle.chains.proofs.chain.uniformise.Goals as goal

pub returns-in_err-uniformise_refusal-clause-outcome : goal.returns-in_err-uniformise_refusal-clause-outcome
returns-in_err-uniformise_refusal-clause-outcome c =
    answer_refused c.args.model.now c.args.rate c.args.observations.now c.args.store.now c.in_err-uniformise_refusal.ensures c.from_residual.result _ c.from_residual.ensures.1 refl

pub lay-requires-clause-accepted : goal.lay-requires-clause-accepted
lay-requires-clause-accepted c =
    accepted _ _ (ready_to c.args.model.now c.args.rate c.args.observations.now c.args.store.now c.in_ok-uniformise_refusal.ensures refl).0

pub lay-requires-clause-room : goal.lay-requires-clause-room
lay-requires-clause-room c =
    (ready_to c.args.model.now c.args.rate c.args.observations.now c.args.store.now c.in_ok-uniformise_refusal.ensures refl).1

pub returns-clause-outcome : goal.returns-clause-outcome
returns-clause-outcome c =
    answer_made c.args.model.now c.args.rate c.args.observations.now c.args.store.now c.in_ok-uniformise_refusal.ensures refl c.start-state.ensures _ _ c.lay.ensures.laid_out
