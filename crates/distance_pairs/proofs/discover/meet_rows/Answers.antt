use native.Mathlib.Omega.{arith}
use mathlib.Core.Path.{refl}
use Prim.Native.Nat.{◌+◌}
use lib.ListN.{get_or}
use Rattle.distance_theory.proofs.Discovery.{takes_none, takes_next, takes_stop, takes_done, crossed, crossing_joins, takes_row, handed}
use Rattle.std.proofs.Common.{rules}
use Rattle.distance_pairs.proofs.discover.meet_rows.Goals as goal

pub loop-x-init : goal.loop-x-init
loop-x-init c = ((refl, refl, refl), c.requires, takes_none c.args.ys.now _ _ _ _)

pub returns-in_err-meet_row-clause-met : goal.returns-in_err-meet_row-clause-met
returns-in_err-meet_row-clause-met c =
    let ys = c.args.ys.now in
    let (o, N, T) = c.in_err-meet_row.ensures.met in
    handed (crossed ys c.args.xs.now) c.args.pairs.now c.meet_row.new.pairs c.from_residual.result _ c.from_residual.ensures.1
    (o, N, takes_stop (crossed ys) (crossing_joins ys) c.args.xs.now (c.loop-x.x-index + 1) (omega arith) (takes_next (crossed ys) (crossing_joins ys) c.args.xs.now c.loop-x.x-index c.loop-x-test.true c.loop-x.invariant.2 (takes_row (get_or c.args.xs.now c.loop-x.x-index 0) ys T)))

pub loop-x-preserved : goal.loop-x-preserved
loop-x-preserved c = (search rules, c.in_ok-meet_row.ensures.met.1, takes_next (crossed c.args.ys.now) (crossing_joins c.args.ys.now) c.args.xs.now c.loop-x.x-index c.loop-x-test.true c.loop-x.invariant.2 (takes_row (get_or c.args.xs.now c.loop-x.x-index 0) c.args.ys.now c.in_ok-meet_row.ensures.met.2))

pub returns-clause-met : goal.returns-clause-met
returns-clause-met c = (tt, c.loop-x.invariant.1, takes_done (crossed c.args.ys.now) (crossing_joins c.args.ys.now) c.args.xs.now c.loop-x.x-index c.loop-x-test.false c.loop-x.invariant.2)
