-- The invariant: the greatest exit rate so far and those still to come make the greatest of all. A turn takes the next state's.
use mathlib.Core.Path.{◌≡◌}
use Prim.Native.Nat.{ℕ, ◌≤◌}
use mathlib.Core.List.{map}
use lib.Ieee.{Float}
use Rattle.numbers.specs.Real.{nought}
use Rattle.numbers.specs.Lists.{span}
use Rattle.bisim_core.specs.Data.{Columns, columns_of}
use Rattle.bisim_core.specs.Model.{row}
use Rattle.chain_theory.specs.Chain.{exit_rate, greatest_from}
use Rattle.chains.proofs.Exits.{Most}
use Rattle.chains.proofs.rates.greatest_exit.Given as goal

abbrev pub exit_at : Columns → ℕ → Float
exit_at M s = exit_rate (row M s)

abbrev pub invariant-loop-s : goal.invariant-loop-s
invariant-loop-s l = (l.s ≤ l.model.shape.states) × (Most (exit_at (columns_of l.model)) l.greatest l.s l.model.shape.states ≡ greatest_from nought (map (exit_at (columns_of l.model)) (span 0 l.model.shape.states)))
