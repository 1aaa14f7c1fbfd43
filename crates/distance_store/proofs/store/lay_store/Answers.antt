-- By the check of the counts.
use mathlib.Core.Bool.{not, false}
use mathlib.Core.Path.{refl, ap, ◌∙◌}
use lib.ListN.{length}
use Rattle.distance_store.proofs.Filling.{counted_is, counted_not, counts_known, uncounted, counting}
use Rattle.distance_store.proofs.store.lay_store.Goals as goal
use Rattle.distance_store.proofs.store.lay_store.Goals.{then-n-gt4096-via-then-n-gt4096, then-n-gt4096-via-else-n-gt4096+then-not-long}

pub returns-then-n-gt4096-clause-filled : goal.returns-then-n-gt4096-clause-filled
returns-then-n-gt4096-clause-filled c =
    let P = c.args.task.now.pairs in
    let S = c.args.store.now in
    elim c.then-n-gt4096.branch [
      | then-n-gt4096-via-then-n-gt4096 w ↦ uncounted (length P.lefts.now) (length P.lefts.now) (length P.rights.now) (length c.args.starts.now) (length S.lengths.now) false (counted_not _ _ _ _ w.if-n-gt4096.true) refl _ c.args.starts.now S.lengths.now S.places.now S.masses.now
      | then-n-gt4096-via-else-n-gt4096+then-not-long w ↦ uncounted (length P.lefts.now) (length P.lefts.now) (length P.rights.now) (length c.args.starts.now) (length S.lengths.now) w.long.result (w.long.ensures ∙ counted_is _ _ _ _ w.if-n-gt4096.false) (ap not w.if-not-long.true) _ c.args.starts.now S.lengths.now S.places.now S.masses.now
    ]

pub fill_each-requires : goal.fill_each-requires
fill_each-requires c = let P = c.args.task.now.pairs in let S = c.args.store.now in (counts_known (length P.lefts.now) (length P.lefts.now) (length P.rights.now) (length c.args.starts.now) (length S.lengths.now) c.long.result (c.long.ensures ∙ counted_is _ _ _ _ c.if-n-gt4096.false) (ap not c.if-not-long.false))

pub returns-clause-filled : goal.returns-clause-filled
returns-clause-filled c = let P = c.args.task.now.pairs in let S = c.args.store.now in counting (length P.lefts.now) (length P.lefts.now) (length P.rights.now) (length c.args.starts.now) (length S.lengths.now) c.long.result (c.long.ensures ∙ counted_is _ _ _ _ c.if-n-gt4096.false) (ap not c.if-not-long.false) _ _ c.args.starts.now S.lengths.now S.places.now S.masses.now c.fill_each.ensures.filled
