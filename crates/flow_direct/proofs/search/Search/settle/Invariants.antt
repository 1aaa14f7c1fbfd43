-- `search::Search::settle` meets its contract. The loop's invariant: the tries so far lead on from the start.
use Rattle.flow_direct.specs.Lent.{Settling}
use Rattle.flow_direct.proofs.search.Search.settle.Given as goal

abbrev pub invariant-loop : goal.invariant-loop
invariant-loop l = Settling l.need l.initial.self l.before l.self l.so_far
