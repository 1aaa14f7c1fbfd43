-- The invariant is `Fills`: what the definition leaves from pair k on is what it leaves from the first on. A turn lays one pair more, or ends the loop.
use lib.ListN.{length}
use Rattle.distance_theory.specs.Lent.{SameStore}
use Rattle.distance_words.proofs.Store.{laying_in}
use Rattle.distance_store.proofs.Filling.{Fills}
use Rattle.distance_store.proofs.store.fill_each.Given as goal

abbrev pub invariant-loop-k : goal.invariant-loop-k
invariant-loop-k l =
    SameStore l.initial.store l.store × Fills (laying_in l.task) (length l.task.pairs.lefts.now) l.initial.starts l.initial.store.lengths.now l.initial.store.places.now l.initial.store.masses.now l.k l.at l.starts l.store.lengths.now l.store.places.now l.store.masses.now
