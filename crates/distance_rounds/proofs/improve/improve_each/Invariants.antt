-- The invariant is `Betters`: what the definition leaves from pair k on is what it leaves of n from the first on. A turn improves one pair more.
use mathlib.Core.Path.{◌≡◌}
use lib.ListN.{length}
use Rattle.distance_theory.specs.Lent.{SameStore}
use Rattle.distance_words.proofs.Improving.{best_in}
use Rattle.distance_rounds.proofs.Steps.{Betters}
use Rattle.distance_rounds.proofs.improve.improve_each.Given as goal

abbrev pub invariant-loop-k : goal.invariant-loop-k
invariant-loop-k l =
    (length l.work.places.now ≡ 1024) × (length l.work.masses.now ≡ 1024) × SameStore l.initial.store l.store
    × Betters (best_in l.task l.values) l.values l.task.gamma l.task.cost.now l.starts l.n l.initial.store.lengths.now l.initial.store.places.now l.initial.store.masses.now l.k l.residual l.improved l.store.lengths.now l.store.places.now l.store.masses.now
