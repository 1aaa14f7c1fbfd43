use mathlib.Core.Path.{refl, ap}
use Rattle.std.specs.Prelude.{Ok}
use Rattle.min_epsilon.specs.Outcome.{alike}
use Rattle.min_epsilon.proofs.Runs.{value_is, not_refused, zero_length, zero_again, allowed}
use Rattle.min_epsilon.proofs.Halvings.{going_start, going_done, going_valid, going_lower, going_upper, fewer_lower, fewer_upper}
use Rattle.min_epsilon.proofs.least.Search.bisect.Goals as goal

pub loop-hi-init : goal.loop-hi-init
loop-hi-init c = (c.requires.cleared, going_start (alike c.args.self.now.sides.now c.args.self.now.rho))

pub holds-requires : goal.holds-requires
holds-requires c =
    let a = c.args in
    let l = c.loop-hi in
    allowed a.self.now.sides.now a.self.now.rho _ l.relation a.relation.now c.requires.unrefused (zero_length l.relation a.relation.now l.invariant.0)
    (going_valid (alike a.self.now.sides.now a.self.now.rho) l.lo l.hi _ c.loop-hi-test.true refl l.invariant.1)

pub loop-hi-smaller-then-branch : goal.loop-hi-smaller-then-branch
loop-hi-smaller-then-branch c =
    let a = c.args in
    let l = c.loop-hi in
    fewer_lower (alike a.self.now.sides.now a.self.now.rho) l.lo l.hi _ c.loop-hi-test.true refl l.invariant.1

pub loop-hi-preserved-then-branch : goal.loop-hi-preserved-then-branch
loop-hi-preserved-then-branch c =
    let a = c.args in
    let l = c.loop-hi in
    let r = c.holds in
    (zero_again r.new.relation l.relation a.relation.now l.invariant.0 c.in_ok-holds.ensures.1, going_lower (alike a.self.now.sides.now a.self.now.rho) l.lo l.hi _ c.loop-hi-test.true refl l.invariant.1 _ (value_is c.in_ok-holds.ensures.0) c.if-branch.true)

pub loop-hi-smaller : goal.loop-hi-smaller
loop-hi-smaller c =
    let a = c.args in
    let l = c.loop-hi in
    fewer_upper (alike a.self.now.sides.now a.self.now.rho) l.lo l.hi _ c.loop-hi-test.true refl l.invariant.1

pub loop-hi-preserved : goal.loop-hi-preserved
loop-hi-preserved c =
    let a = c.args in
    let l = c.loop-hi in
    let r = c.holds in
    (zero_again r.new.relation l.relation a.relation.now l.invariant.0 c.in_ok-holds.ensures.1, going_upper (alike a.self.now.sides.now a.self.now.rho) l.lo l.hi _ c.loop-hi-test.true refl l.invariant.1 _ (value_is c.in_ok-holds.ensures.0) c.if-branch.false)

pub shape_of-relation : goal.shape_of-relation
shape_of-relation c = zero_length c.loop-hi.relation c.args.relation.now c.loop-hi.invariant.0

pub returns : goal.returns
returns c =
    let l = c.loop-hi in
    (ap Ok (going_done (alike c.args.self.now.sides.now c.args.self.now.rho) l.lo l.hi l.invariant.1 c.loop-hi-test.false), l.invariant.0)

pub returns-in_err-holds : goal.returns-in_err-holds
returns-in_err-holds c = absurd (not_refused c.in_err-holds.ensures.0)
