-- The invariant: the search among n places from lo on comes to where the codes of the key go. Each turn passes the larger half by, or not.
use Prim.Native.Nat.{◌≤◌, ◌+◌}
use lib.ListN.{length}
use Rattle.distance_theory.proofs.Index.{keyed, Narrowing}
use Rattle.distance_pairs.proofs.index.goes_by.Given as goal

abbrev pub invariant-loop-n : goal.invariant-loop-n
invariant-loop-n l = (l.lo + l.n ≤ length l.list) × Narrowing l.list l.key (keyed l.list l.key) l.lo l.n

abbrev pub decreases-loop-n : goal.decreases-loop-n
decreases-loop-n l = l.n
