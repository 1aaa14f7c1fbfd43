-- `give::Rest::give_row` meets its contract. The loop's invariant: the turn is at i and k.
use Prim.Native.Nat.{◌≤◌}
use Rattle.flow_routes.proofs.Coding.{Shut}
use Rattle.flow_direct.specs.Lent.{Giving}
use Rattle.flow_direct.proofs.give.Rest.give_row.Given as goal

abbrev pub invariant-loop-k : goal.invariant-loop-k
invariant-loop-k l = Giving l.initial.self l.before l.i l.self l.total l.i l.k × (l.from ≤ l.k) × Shut l.from l.self.rights.now
