-- The invariant is `Iterates`: what the definition leaves from here on is what it leaves from the first round on. A turn makes one round more, or ends the loop.
use Rattle.distance_theory.specs.Lent.{SameStore}
use Rattle.distance_words.proofs.Iterating.{task_of}
use Rattle.distance_rounds.proofs.Iterates.{Iterates}
use Rattle.distance_rounds.proofs.rounds.iterate_first.Given as goal

abbrev pub invariant-loop-rounds : goal.invariant-loop-rounds
invariant-loop-rounds l =
    SameStore l.initial.store l.store
    × Iterates (task_of l.task l.n l.starts l.aim l.tol) l.max_rounds l.initial.values l.initial.store.lengths.now l.initial.store.places.now l.initial.store.masses.now l.residual l.rounds l.values l.store.lengths.now l.store.places.now l.store.masses.now
