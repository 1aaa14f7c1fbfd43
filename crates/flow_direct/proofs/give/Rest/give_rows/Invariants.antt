-- `give::Rest::give_rows` meets its contract. The loop's invariant: the turn is at i.
use Rattle.numbers.specs.Real.{nought}
use Rattle.flow_routes.proofs.Coding.{Shut}
use Rattle.flow_direct.specs.Lent.{Giving}
use Rattle.flow_direct.proofs.give.Rest.give_rows.Given as goal

abbrev pub invariant-loop-i : goal.invariant-loop-i
invariant-loop-i l = Giving l.initial.self nought 0 l.self l.total l.i 0 × Shut l.from l.self.rights.now
