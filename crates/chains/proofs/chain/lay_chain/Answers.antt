-- What `try_lay_chain` lays, or no states.
use mathlib.Core.Path.{ap, ◌∙◌}
use Rattle.bisim_core.specs.Data.{columns_of}
use Rattle.chain_theory.specs.Lent.{of_store}
use Rattle.chain_theory.specs.declared.ChainShape.{ChainShape}
use Rattle.chains.specs.Outcome.{laying}
use Rattle.chains.proofs.Answers.{lay_or_none}
use Rattle.chains.proofs.chain.lay_chain.Goals as goal

pub returns-clause-outcome : goal.returns-clause-outcome
returns-clause-outcome c =
    let o = c.args.observed.now in
    let D = of_store c.try_lay_chain.new.store in
    ap (λ (H : ChainShape). laying H D) c.unwrap_or.ensures
    ∙ lay_or_none o.model.shape (columns_of o.model) c.args.rate o.observations.now o.state.0 (of_store c.args.store.now) c.try_lay_chain.result D c.try_lay_chain.ensures.outcome
