-- `search::Search::walk` meets its contract: a link forth, a link back, and where one is missing (Coding, Pathing).
use Rattle.std.proofs.Common.{rules}
use mathlib.Core.Path.{◌≡◌, refl}
use Prim.Native.Nat.{◌+◌, ◌-◌, ◌<◌, ◌≤◌}
use native.Mathlib.Omega.{arith}
use lib.ListN.{length, set}
use Rattle.flow_routes.proofs.Coding.{Walking, walking_low, walking_forth, walking_back}
use Rattle.flow_routes.proofs.Pathing.{stops_sink}
use Rattle.flow_direct.proofs.search.Search.walk.Goals as goal

pub loop-g-init : goal.loop-g-init
loop-g-init c =
    let h : c.args.path.now.s < length c.args.path.now.rights = search rules in
    let W : Walking c.args.self.now.rest.test.left.targets.now c.args.self.now.rest.test.right.targets.now c.args.self.now.rest.test.states c.args.self.now.rest.test.relation.now c.args.self.now.rest.flows.now c.args.self.now.labels.lefts.now c.args.self.now.labels.rights.now c.args.path.now.s c.args.start (set c.args.path.now.lefts c.args.path.now.s c.args.start) c.args.path.now.rights c.args.path.now.s c.args.path.now.s = search rules in
    (refl, walking_forth W h c.in-Some.ensures.0 c.in-Some.ensures.1)

pub loop-g-preserved : goal.loop-g-preserved
loop-g-preserved c =
    let (o, u, v) = walking_low c.loop-g.invariant.1 c.requires.2 in
    let t = c.loop-g-test.true in
    let h : c.loop-g.g - 1 < length c.loop-g.path.rights = search rules in
    let l : c.loop-g.g ≤ length c.loop-g.path.lefts = search rules in
    let z : c.loop-g.g - 1 + 1 ≡ c.loop-g.g = omega arith in
    let q = c.in-Some-first_back.ensures.0 in
    (c.loop-g.invariant.0, walking_forth (walking_back c.loop-g.invariant.1 (omega arith) l (omega arith) (rw z at c.in-Some-first_back.ensures.1)) h c.in-Some-first_right.ensures.0 c.in-Some-first_right.ensures.1)

pub returns : goal.returns
returns c = let (o, u, v) = walking_low c.loop-g.invariant.1 c.requires.2 in let t = c.loop-g-test.false in (c.loop-g.invariant.0, stops_sink c.loop-g.invariant.1 (omega arith))

pub returns-in_default-first_right : goal.returns-in_default-first_right
returns-in_default-first_right c =
    let (o, u, v) = walking_low c.loop-g.invariant.1 c.requires.2 in
    let t = c.loop-g-test.true in
    let l : c.loop-g.g ≤ length c.loop-g.path.lefts = search rules in
    let z : c.loop-g.g - 1 + 1 ≡ c.loop-g.g = omega arith in
    let q = c.in-Some-first_back.ensures.0 in
    (c.loop-g.invariant.0, (walking_back c.loop-g.invariant.1 (omega arith) l (omega arith) (rw z at c.in-Some-first_back.ensures.1), c.in_default-first_right.ensures.none))
