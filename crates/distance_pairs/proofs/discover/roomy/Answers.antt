use mathlib.Core.Path.{◌∙◌}
use mathlib.Core.Bool.{◌&&◌}
use mathlib.Core.List.{[], ◌∷◌}
use lib.Dec.{leb}
use lib.ListN.{length}
use Rattle.distance_theory.specs.Pairs.{most}
use Rattle.distance_theory.proofs.Longs.{all_one, all_more}
use Rattle.distance_pairs.proofs.discover.roomy.Goals as goal

pub returns : goal.returns
returns c =
    let P = c.args.pairs.now in
    let t = leb most in
    c.long.ensures ∙ all_more t (length P.lefts.now) (length P.rights.now ∷ length P.codes.now ∷ []) (t (length P.rights.now) && t (length P.codes.now)) (all_more t (length P.rights.now) (length P.codes.now ∷ []) (t (length P.codes.now)) (all_one t (length P.codes.now)))
