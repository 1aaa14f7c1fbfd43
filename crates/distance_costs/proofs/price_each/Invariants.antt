-- The invariant: the costs of the first k pairs stand in the list. A turn makes one more.
use mathlib.Core.Path.{◌≡◌}
use Prim.Native.Nat.{◌≤◌}
use lib.ListN.{length}
use Rattle.numbers.proofs.Over.{over}
use Rattle.distance_words.proofs.Costs.{costs}
use Rattle.distance_costs.proofs.price_each.Given as goal

abbrev pub invariant-loop-k : goal.invariant-loop-k
invariant-loop-k l = (l.k ≤ length l.initial.cost) × (length l.cost ≡ length l.initial.cost) × (l.cost ≡ over (costs l.pairs.lefts.now l.pairs.rights.now l.left.observations.now l.right.observations.now l.gamma (length l.pairs.lefts.now)) l.k l.initial.cost)
