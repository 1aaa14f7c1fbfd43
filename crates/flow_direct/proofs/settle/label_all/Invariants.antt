-- `settle::label_all` meets its contract. The loop's invariant: the first k labels are written.
use Rattle.flow_routes.proofs.Reaching.{Labelling}
use Rattle.flow_direct.proofs.settle.label_all.Given as goal

abbrev pub invariant-loop-k : goal.invariant-loop-k
invariant-loop-k l = Labelling l.some l.none l.rates l.initial.labels l.labels l.k
