-- The invariant: the first k shares are laid. A turn lays one more, that of cell k.
use mathlib.Core.Path.{◌≡◌}
use Prim.Native.Nat.{◌≤◌, ◌*◌}
use lib.ListN.{length}
use Rattle.distance_theory.proofs.Bests.{Laying}
use Rattle.distance_theory.proofs.RowsLent.{independent_rows}
use Rattle.distance_couplings.proofs.shares.lay_shares.Given as goal

abbrev pub invariant-loop-k : goal.invariant-loop-k
invariant-loop-k l = ((l.shares.places.ghost_name ≡ l.initial.shares.places.ghost_name) × (l.shares.masses.ghost_name ≡ l.initial.shares.masses.ghost_name)) × (l.k ≤ length l.rows.xs.targets.now * length l.rows.ys.targets.now) × (length l.shares.places.now ≡ length l.initial.shares.places.now) × (length l.shares.masses.now ≡ length l.initial.shares.masses.now) × Laying (independent_rows l.rows) l.initial.shares.places.now l.initial.shares.masses.now l.k l.shares.places.now l.shares.masses.now
