-- The invariant: the places of the first i cells are laid. A turn lays one more.
use mathlib.Core.Path.{◌≡◌}
use Prim.Native.Nat.{◌≤◌}
use lib.ListN.{length}
use Rattle.numbers.proofs.Over.{over}
use Rattle.distance_theory.proofs.Index.{look_up}
use Rattle.distance_theory.proofs.Bests.{places_by}
use Rattle.distance_couplings.proofs.best.lay_planned.Given as goal

abbrev pub invariant-loop-i : goal.invariant-loop-i
invariant-loop-i l = (l.i ≤ length l.initial.places) × (length l.places ≡ length l.initial.places) × (l.places ≡ over (places_by (look_up l.rows.codes.now) l.rows.xs.targets.now l.rows.ys.targets.now l.plan.rows.now l.plan.columns.now (length l.initial.places)) l.i l.initial.places)
