-- The invariant: interning what is left, the values of the store known, gives the distinct values of the whole column; and the ids so far are the final ones (`Interning`).
-- A turn meets a known value or a new one; a new one that the store has no room for ends the loop.
use mathlib.Core.Path.{◌≡◌}
use lib.ListN.{length}
use Rattle.bisim_edges.proofs.Interns.{Interning}
use Rattle.bisim_edges.proofs.labels.intern_all.Given as goal

abbrev pub invariant-loop-i : goal.invariant-loop-i
invariant-loop-i l = Interning l.values l.initial.store l.initial.ids l.store l.ids l.i l.count × (length l.guesses ≡ 1024)
