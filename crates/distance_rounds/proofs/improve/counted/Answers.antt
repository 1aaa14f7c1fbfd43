-- `long` of the six lengths.
use mathlib.Core.Path.{ap, ◌∙◌}
use mathlib.Core.Bool.{Bool, ◌&&◌}
use lib.Dec.{leb}
use lib.ListN.{length}
use Rattle.std.proofs.Math.Bool.{and-true}
use Rattle.numbers.specs.Lists.{all}
use Rattle.distance_rounds.proofs.improve.counted.Goals as goal

pub returns : goal.returns
unfolding all
returns c =
    let n = c.args.n in
    let T = c.args.task.now in
    let S = c.args.store.now in
    c.long.ensures
    ∙ ap (λ (b : Bool). leb n (length T.pairs.lefts.now) && (leb n (length T.pairs.rights.now) && (leb n (length c.args.values.now) && (leb n (length T.cost.now) && (leb n (length c.args.starts.now) && b))))) (and-true (leb n (length S.lengths.now)))
