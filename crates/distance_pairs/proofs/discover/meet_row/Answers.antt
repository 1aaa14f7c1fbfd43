use native.Mathlib.Omega.{arith}
use mathlib.Core.Path.{refl}
use Prim.Native.Nat.{◌+◌}
use mathlib.Core.List.{map}
use Rattle.distance_theory.specs.Pairs.{pair}
use Rattle.distance_theory.proofs.Discovery.{takes_nil, takes_next, takes_stop, takes_done, pair_joins, handed}
use Rattle.std.proofs.Common.{rules}
use Rattle.distance_pairs.proofs.discover.meet_row.Goals as goal

pub loop-y-init : goal.loop-y-init
loop-y-init c = ((refl, refl, refl), c.requires, takes_nil _ _ _ _)

pub returns-in_err-meet-clause-met : goal.returns-in_err-meet-clause-met
returns-in_err-meet-clause-met c =
    let F = map (pair c.args.x) in
    let (o, N, T) = c.in_err-meet.ensures.met in
    handed (F c.args.ys.now) c.args.pairs.now c.meet.new.pairs c.from_residual.result _ c.from_residual.ensures.1
    (o, N, takes_stop F (pair_joins c.args.x) c.args.ys.now (c.loop-y.y-index + 1) (omega arith) (takes_next F (pair_joins c.args.x) c.args.ys.now c.loop-y.y-index c.loop-y-test.true c.loop-y.invariant.2 T))

pub loop-y-preserved : goal.loop-y-preserved
loop-y-preserved c = (search rules, c.in_ok-meet.ensures.met.1, takes_next (map (pair c.args.x)) (pair_joins c.args.x) c.args.ys.now c.loop-y.y-index c.loop-y-test.true c.loop-y.invariant.2 c.in_ok-meet.ensures.met.2)

pub returns-clause-met : goal.returns-clause-met
returns-clause-met c = (tt, c.loop-y.invariant.1, takes_done (map (pair c.args.x)) (pair_joins c.args.x) c.args.ys.now c.loop-y.y-index c.loop-y-test.false c.loop-y.invariant.2)
