-- `run::ship` meets its contract. The loop's invariant: the rounds still to come, from these capacities and what remains, lead to the end (Turns.Shipping).
use Rattle.transport_theory.proofs.RoundRows.{roads_of}
use Rattle.transport_theory.proofs.Turns.{Shipping}
use Rattle.transport_core.proofs.run.ship.Given as goal

abbrev pub invariant-loop : goal.invariant-loop
invariant-loop l = Shipping (roads_of l.course.net l.course.ends) l.much l.most l.initial.caps l.start l.caps l.remaining l.counter
