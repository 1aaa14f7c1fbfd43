-- The invariant: what is added so far and the weights still to come make the exit rate. A turn passes over a self-loop, or adds its weight.
use mathlib.Core.Path.{◌≡◌}
use Prim.Native.Nat.{ℕ, ◌+◌, ◌≤◌}
use lib.Ieee.{Float}
use Rattle.numbers.specs.Real.{sum_from}
use Rattle.bisim_core.specs.Data.{Columns, columns_of}
use Rattle.bisim_core.specs.Model.{begins, row}
use Rattle.chain_theory.specs.Chain.{exit_rate}
use Rattle.chains.proofs.Exits.{Left}
use Rattle.chains.proofs.rates.exit_rate.Given as goal

-- x and the weights of the edges from i up to b, the end of the row
abbrev pub Adds : Columns → ℕ → Float → ℕ → ℕ → Type 0
Adds M s x i b = (begins M s ≤ i) × (i ≤ b) × (b ≡ begins M (s + 1)) × (sum_from x (Left M s i b) ≡ exit_rate (row M s))

abbrev pub invariant-loop-i : goal.invariant-loop-i
invariant-loop-i l = Adds (columns_of l.model) l.s l.total l.i-iterator.start l.i-iterator.end
