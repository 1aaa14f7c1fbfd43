-- `give::Rest::least` meets its contract. The loop's invariant: the least of x and what is left from label g on is the least of the whole path.
use Prim.Native.Nat.{◌≤◌}
use lib.ListN.{length}
use Rattle.flow_routes.proofs.Pathing.{LeastOn}
use Rattle.flow_direct.proofs.give.Rest.least.Given as goal

abbrev pub invariant-loop-g : goal.invariant-loop-g
invariant-loop-g l = (1 ≤ l.g) × (l.g ≤ l.path.s) × LeastOn (length l.self.test.right.targets.now) l.self.lefts.now l.self.rights.now l.self.flows.now l.path.s l.path.lefts l.path.rights l.g l.x
