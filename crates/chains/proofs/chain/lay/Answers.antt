-- The rows are those that `make_rows` lays, and the observations those copied.
use Rattle.bisim_core.specs.Data.{columns_of}
use Rattle.chain_theory.specs.Lent.{of_store}
use Rattle.chains.proofs.Answers.{copied, ready, laid_out}
use Rattle.chains.proofs.chain.lay.Goals as goal

pub returns-clause-laid_out : goal.returns-clause-laid_out
returns-clause-laid_out c =
    laid_out c.args.observed.now.model.shape (columns_of c.args.observed.now.model) c.args.rate c.args.observed.now.observations.now c.args.observed.now.state (of_store c.args.store.now) _ _ _
    (let R = ready c.args.observed.now.model.shape c.args.observed.now.observations.now (of_store c.args.store.now) c.requires.room in copied _ _ _ _ R.seen_long c.copy_from_slice.ensures.after)
    c.make_rows-entries.ensures.rows_laid
