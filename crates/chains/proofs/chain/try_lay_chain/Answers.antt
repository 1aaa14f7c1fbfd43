-- A model that is refused or a short list leaves the lists; else what `lay` leaves is the chain.
use mathlib.Core.Path.{refl, sym, ◌∙◌}
use Rattle.std.specs.Prelude.{Err}
use Rattle.numbers.specs.declared.refusal.Refusal.TheVariants as refusal
use Rattle.numbers.proofs.Refuses.{number_positive}
use Rattle.bisim_core.specs.Data.{columns_of}
use Rattle.bisim_core.proofs.Accepted.{accepted}
use Rattle.chain_theory.specs.Lent.{of_store}
use Rattle.chains.proofs.Answers.{lay_unfit, lay_short, lay_fit, lay_refused, lay_made}
use Rattle.chains.proofs.chain.try_lay_chain.Goals as goal

pub returns-in_err-check-clause-outcome : goal.returns-in_err-check-clause-outcome
returns-in_err-check-clause-outcome c =
    let o = c.args.observed.now in
    lay_refused o.model.shape (columns_of o.model) c.args.rate o.observations.now o.state.0 (of_store c.args.store.now) c.from_residual.result _ c.from_residual.ensures.1 (lay_unfit o.model.shape (columns_of o.model) o.observations.now (of_store c.args.store.now) c.in_err-check.ensures (number_positive _))

pub returns-then-cramped-clause-outcome : goal.returns-then-cramped-clause-outcome
returns-then-cramped-clause-outcome c =
    let o = c.args.observed.now in
    lay_refused o.model.shape (columns_of o.model) c.args.rate o.observations.now o.state.0 (of_store c.args.store.now) (Err refusal.Store) refusal.Store refl (lay_short o.model.shape (columns_of o.model) o.observations.now (of_store c.args.store.now) c.in_ok-check.ensures refl (sym c.cramped.ensures ∙ c.if-cramped.true))

pub lay-requires-clause-accepted : goal.lay-requires-clause-accepted
lay-requires-clause-accepted c = accepted _ _ (sym c.in_ok-check.ensures)

pub returns-clause-outcome : goal.returns-clause-outcome
returns-clause-outcome c =
    let o = c.args.observed.now in
    lay_made o.model.shape (columns_of o.model) c.args.rate o.observations.now o.state.0 (of_store c.args.store.now) (lay_fit o.model.shape (columns_of o.model) o.observations.now (of_store c.args.store.now) c.in_ok-check.ensures refl (sym c.cramped.ensures ∙ c.if-cramped.false)) _ _ c.lay.ensures.laid_out
