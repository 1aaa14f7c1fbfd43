-- `give::Rest::push` meets its contract. The loop's invariant: x was pushed as far as label g.
use mathlib.Core.Path.{◌≡◌}
use Prim.Native.Nat.{◌≤◌}
use lib.ListN.{length, get_or}
use Rattle.flow_routes.proofs.Ways.{minus}
use Rattle.flow_routes.proofs.Pathing.{SendsOn}
use Rattle.flow_direct.proofs.give.Rest.push.Given as goal

abbrev pub invariant-loop-g : goal.invariant-loop-g
invariant-loop-g l =
    (1 ≤ l.g) × (l.g ≤ l.path.s) × (l.self.lefts.now ≡ l.initial.self.lefts.now) × (l.self.rights.now ≡ l.initial.self.rights.now) × (length l.self.flows.now ≡ length l.initial.self.flows.now)
    × SendsOn (length l.initial.self.test.right.targets.now) l.initial.self.lefts.now l.initial.self.rights.now l.initial.self.flows.now l.path.s l.path.lefts l.path.rights l.x l.g (minus l.x l.initial.self.lefts.now (get_or l.path.lefts l.path.s 0)) l.initial.self.rights.now l.self.flows.now
    × (l.self.test ≡ l.initial.self.test)
