use Prim.Native.Nat.{◌<◌}
use mathlib.Core.Path.{◌≡◌, ◌∙◌}
use native.Mathlib.Omega.{arith}
use Rattle.std.proofs.Common.{rules}
use lib.ListN.{length}
use Rattle.flow_theory.specs.Network.{out}
use Rattle.flow_check.specs.Lent.{net_on}
use Rattle.flow_theory.proofs.Walking.{walk_begins, u_in, u_next, path_room, blocked_ends, back_in, from_next, from_mark, back, back_less, reached_ends}
use Rattle.flow_theory.proofs.Seeking.{row_seekable, found_on, found_less, none_on, none_less}
use Rattle.flow_core.proofs.Leaving.{leaving_out, next_few}
use Rattle.flow_core.proofs.augment.walk.Goals as goal
use Rattle.flow_core.proofs.augment.walk.Goals.{After-leaving-links}

-- the links of the node, as the run sees them
outs : (c : After-leaving-links) → c.leaving-links.result.now ≡ out (net_on c.args.phase.now.course) c.loop-u.u
outs c = c.leaving-links.ensures ∙ leaving_out c.args.phase.now.course.net c.requires.laid (u_in c.requires c.loop-u.invariant)

pub loop-u-init : goal.loop-u-init
loop-u-init c = let size : length c.args.path.now ≡ 66 = search rules in walk_begins c.requires (rw size (next_few c.requires))

pub offset_bounds-next-u : goal.offset_bounds-next-u
offset_bounds-next-u c = omega (arith, u_next c.requires c.loop-u.invariant)

pub bounds-next-u : goal.bounds-next-u
bounds-next-u c = u_next c.requires c.loop-u.invariant

pub seek-requires : goal.seek-requires
seek-requires c = row_seekable c.requires c.loop-u.invariant c.loop-u-test.true (outs (goal.at.seek-requires c).After-leaving-links) c.if-at-links.true

pub bounds-next-u-in-Some : goal.bounds-next-u-in-Some
bounds-next-u-in-Some c = u_next c.requires c.loop-u.invariant

pub bounds-net-e : goal.bounds-net-e
bounds-net-e c = ((row_seekable c.requires c.loop-u.invariant c.loop-u-test.true (outs (goal.at.bounds-net-e c).After-leaving-links) c.if-at-links.true) c.in-Some.k c.in-Some.ensures.0).0

pub loop-u-smaller-in-Some : goal.loop-u-smaller-in-Some
loop-u-smaller-in-Some c = found_less c.requires c.loop-u.invariant c.loop-u-test.true (outs (goal.at.loop-u-smaller-in-Some c).After-leaving-links) c.if-at-links.true c.in-Some.ensures

pub loop-u-preserved-in-Some : goal.loop-u-preserved-in-Some
loop-u-preserved-in-Some c = found_on c.requires c.loop-u.invariant c.loop-u-test.true (outs (goal.at.loop-u-preserved-in-Some c).After-leaving-links) c.if-at-links.true c.in-Some.ensures

pub bounds-next-u-in-None : goal.bounds-next-u-in-None
bounds-next-u-in-None c = u_next c.requires c.loop-u.invariant

pub loop-u-smaller-in-None : goal.loop-u-smaller-in-None
loop-u-smaller-in-None c = none_less c.requires c.loop-u.invariant c.loop-u-test.true (outs (goal.at.loop-u-smaller-in-None c).After-leaving-links) c.if-at-links.true c.in-None.ensures

pub loop-u-preserved-in-None : goal.loop-u-preserved-in-None
loop-u-preserved-in-None c = none_on c.requires c.loop-u.invariant c.loop-u-test.true (outs (goal.at.loop-u-preserved-in-None c).After-leaving-links) c.if-at-links.true c.in-None.ensures

pub returns-then-len-eq0 : goal.returns-then-len-eq0
returns-then-len-eq0 c = blocked_ends c.requires c.loop-u.invariant c.loop-u-test.true (outs (goal.at.returns-then-len-eq0 c).After-leaving-links) c.if-at-links.false c.if-len-eq0.true

pub offset_bounds-net-reverse : goal.offset_bounds-net-reverse
offset_bounds-net-reverse c = omega (arith, c.reverse.ensures, back_in c.requires c.loop-u.invariant c.loop-u-test.true (outs (goal.at.offset_bounds-net-reverse c).After-leaving-links) c.if-at-links.false c.if-len-eq0.false)

pub bounds-net-reverse : goal.bounds-net-reverse
bounds-net-reverse c = rw c.reverse.ensures (back_in c.requires c.loop-u.invariant c.loop-u-test.true (outs (goal.at.bounds-net-reverse c).After-leaving-links) c.if-at-links.false c.if-len-eq0.false)

pub bounds-next-u-else-at-links : goal.bounds-next-u-else-at-links
bounds-next-u-else-at-links c = let l = c.loop-u.invariant.next_length in rw c.reverse.ensures (from_next c.requires c.loop-u.invariant c.loop-u-test.true (outs (goal.at.bounds-next-u-else-at-links c).After-leaving-links) c.if-at-links.false c.if-len-eq0.false)

pub overflow_add-next-else-at-links : goal.overflow_add-next-else-at-links
overflow_add-next-else-at-links c = let few : length c.args.phase.now.course.net.list.now < 4611686018427387904 = search rules in rw c.reverse.ensures (record { fits = omega (arith, from_mark c.requires c.loop-u.invariant c.loop-u-test.true (outs (goal.at.overflow_add-next-else-at-links c).After-leaving-links) c.if-at-links.false c.if-len-eq0.false) })

pub bounds-next-u-else-at-links-2 : goal.bounds-next-u-else-at-links-2
bounds-next-u-else-at-links-2 c = rw c.reverse.ensures (from_next c.requires c.loop-u.invariant c.loop-u-test.true (outs (goal.at.bounds-next-u-else-at-links-2 c).After-leaving-links) c.if-at-links.false c.if-len-eq0.false)

pub loop-u-smaller : goal.loop-u-smaller
loop-u-smaller c = rw c.reverse.ensures (back_less c.requires c.loop-u.invariant c.loop-u-test.true (outs (goal.at.loop-u-smaller c).After-leaving-links) c.if-at-links.false c.if-len-eq0.false)

pub loop-u-preserved : goal.loop-u-preserved
loop-u-preserved c = rw c.reverse.ensures (back c.requires c.loop-u.invariant c.loop-u-test.true (outs (goal.at.loop-u-preserved c).After-leaving-links) c.if-at-links.false c.if-len-eq0.false)

pub returns : goal.returns
returns c = let r = path_room c.requires c.loop-u.invariant in (omega arith, reached_ends c.requires c.loop-u.invariant c.loop-u-test.false)
