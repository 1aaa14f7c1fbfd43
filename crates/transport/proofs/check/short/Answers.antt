-- `check::short` meets its contract: the tests are the definition's, in its order.
use mathlib.Core.Path.{◌≡◌}
use Prim.Native.Nat.{◌*◌}
use lib.Dec.{ltb}
use lib.ListN.{length}
use Rattle.std.proofs.Common.{rules}
use Rattle.transport_theory.specs.Refusal.{short}
use Rattle.transport.proofs.check.short.Goals as goal

pub returns-then-lacks-3 : goal.returns-then-lacks-3
unfolding short
returns-then-lacks-3 c = search rules

pub returns-else-lacks-3 : goal.returns-else-lacks-3
unfolding short
returns-else-lacks-3 c =
    let last : c.lacks-else-lacks-3.result ≡ ltb (length c.args.plan.now.masses.now) (length c.args.of.now.left.now * length c.args.of.now.right.now) = c.lacks-else-lacks-3.ensures in
    search (rules, last)
