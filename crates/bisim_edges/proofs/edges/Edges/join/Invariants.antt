-- The lists lent stay the same; the edges stored, and after them those of the run under way and of the keys that are left, are the edges of all keys (`Joining`).
-- A turn goes on with the run or ends it; the last run ends after the loop.
use mathlib.Core.Path.{◌≡◌}
use Prim.Native.Nat.{◌+◌}
use mathlib.Core.List.{◌∷◌}
use Rattle.build_theory.proofs.Planning.{numbers}
use Rattle.bisim_edges.proofs.Joins.{Joining}
use Rattle.bisim_edges.proofs.edges.Edges.join.Given as goal

abbrev pub invariant-loop-number : goal.invariant-loop-number
invariant-loop-number l =
    let V = l.initial.self in
    ((l.self.triples.ghost_name ≡ V.triples.ghost_name) × (l.self.sums.ghost_name ≡ V.sums.ghost_name))
    × Joining (l.fn.first.0 ∷ l.rest) l.weights (numbers V.triples.now) V.sums.now (numbers l.self.triples.now) l.self.sums.now l.run.0 l.sum l.self.len (l.number-index + 1)
