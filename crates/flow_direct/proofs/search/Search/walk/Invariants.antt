-- `search::Search::walk` meets its contract. The loop's invariant: the path down to the targets of s and of t at label g.
use mathlib.Core.Path.{◌≡◌}
use Prim.Native.Nat.{◌-◌}
use Rattle.flow_routes.proofs.Coding.{Walking}
use Rattle.flow_direct.proofs.search.Search.walk.Given as goal

abbrev pub invariant-loop-g : goal.invariant-loop-g
invariant-loop-g l =
    (l.path.s ≡ l.initial.path.s)
    × Walking l.self.rest.test.left.targets.now l.self.rest.test.right.targets.now l.self.rest.test.states l.self.rest.test.relation.now l.self.rest.flows.now l.self.labels.lefts.now l.self.labels.rights.now l.initial.path.s l.start l.path.lefts l.path.rights l.g (l.g - 1)
