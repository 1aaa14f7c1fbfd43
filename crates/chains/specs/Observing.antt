-- Definitions of a model, a state, observations and the lists lent for a chain, said of the structs that hold these.
use Rattle.std.specs.Prelude.{ℕ, List, Float}
use Rattle.bisim_core.specs.Data.{Columns, columns_of}
use Rattle.bisim_core.specs.declared.wlts.Shape.{Shape}
use Rattle.chain_theory.specs.Columns.{ChainColumns}
use Rattle.chain_theory.specs.Lent.{of_store}
use Rattle.chain_theory.specs.declared.ChainStore.{ChainStore}
use Rattle.chains.specs.Outcome.{Outcome, Laying, try_lay_chain, lay_chain}
use Rattle.chains.specs.declared.observed.Observed.{Observed}

-- f of a model, a state of it, its observations, and the lists lent for its chain
abbrev pub of_observed : {A : Type 0} → (Shape → Columns → ℕ → List Float → ChainColumns → A) → Observed → ChainStore → A
of_observed f o d = f o.model.shape (columns_of o.model) o.state.0 o.observations.now (of_store d)

-- f of two models, each with these
abbrev pub of_both : {A : Type 0} → (Shape → Columns → ℕ → List Float → ChainColumns → Shape → Columns → ℕ → List Float → ChainColumns → A) → Observed → ChainStore → Observed → ChainStore → A
of_both f o d p e = of_observed (of_observed f o d) p e

-- the chain of a model that is observed, at a rate, over the front of the lists, or what is refused
abbrev pub try_lay_observed : Observed → Float → ChainStore → Outcome
try_lay_observed o q d = try_lay_chain o.model.shape (columns_of o.model) q o.observations.now o.state.0 (of_store d)

-- the same chain, or no states
abbrev pub lay_observed : Observed → Float → ChainStore → Laying
lay_observed o q d = lay_chain o.model.shape (columns_of o.model) q o.observations.now o.state.0 (of_store d)
