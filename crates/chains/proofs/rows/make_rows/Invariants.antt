-- The invariant is `Rowing`: the rows of the states passed stand in the lists. A turn makes the row of the next behind them.
use Rattle.bisim_core.specs.Data.{columns_of}
use Rattle.chain_theory.specs.Lent.{of_store, SameLists}
use Rattle.chains.proofs.Rowing.{Rowing}
use Rattle.chains.proofs.rows.make_rows.Given as goal

abbrev pub invariant-loop-s : goal.invariant-loop-s
invariant-loop-s l = Rowing l.model.shape (columns_of l.model) l.rate (of_store l.initial.store) (of_store l.store) l.end l.s × SameLists l.initial.store l.store
