use mathlib.Core.Path.{refl}
use Rattle.std.proofs.Common.{rules}
use Rattle.distance_theory.proofs.Discovery.{turn_rows, turn, takes_rows, discovers_start, discovers_end, explored}
use Rattle.distance_pairs.proofs.discover.discover_in.Goals as goal

pub loop-i-init : goal.loop-i-init
loop-i-init c = let P = c.args.pairs.now in ((refl, refl, refl), c.requires.lists.1, rw c.requires.lists.0 (discovers_start c.args.left.now.offsets.now c.args.left.now.targets.now c.args.right.now.offsets.now c.args.right.now.targets.now P.lefts.now P.rights.now P.codes.now))

pub row-requires : goal.row-requires
row-requires c = let N = c.loop-i.invariant.1 in (turn_rows c.loop-i.invariant.2 N.few c.loop-i-test.true _ _ refl refl c.requires.explorable).0

pub row-requires-in-loop-i : goal.row-requires-in-loop-i
row-requires-in-loop-i c = let N = c.loop-i.invariant.1 in (turn_rows c.loop-i.invariant.2 N.few c.loop-i-test.true _ _ refl refl c.requires.explorable).1

pub returns-in_err-meet_rows-clause-explores : goal.returns-in_err-meet_rows-clause-explores
returns-in_err-meet_rows-clause-explores c =
    let N = c.loop-i.invariant.1 in
    let (o, M, T) = c.in_err-meet_rows.ensures.met in
    let (k, e) = explored c.from_residual.result _ c.meet_rows.new.pairs c.from_residual.ensures.1 o (turn c.loop-i.invariant.2 N.few c.loop-i-test.true _ _ refl refl (takes_rows c.row.ensures c.row-in-loop-i.ensures T)) in
    (k, M.few, e)

pub loop-i-preserved : goal.loop-i-preserved
loop-i-preserved c = let N = c.loop-i.invariant.1 in (search rules, c.in_ok-meet_rows.ensures.met.1, turn c.loop-i.invariant.2 N.few c.loop-i-test.true _ _ refl refl (takes_rows c.row.ensures c.row-in-loop-i.ensures c.in_ok-meet_rows.ensures.met.2))

pub returns-clause-explores : goal.returns-clause-explores
returns-clause-explores c = let N = c.loop-i.invariant.1 in (tt, N.few, discovers_end c.loop-i.invariant.2 c.loop-i-test.false)
