use native.Mathlib.Omega.{arith}
use Rattle.transport_theory.proofs.Searches.{search_on, search_settles, search_ends}
use Rattle.transport_core.proofs.search.search.Goals as goal

pub returns-then-not-pass : goal.returns-then-not-pass
returns-then-not-pass c = search_settles c.requires c.loop.invariant (omega (arith, c.loop.invariant.dist_length)) c.pass.ensures.sizes.0 c.pass.ensures.sizes.1 c.pass.ensures.passed (c.if-not-pass.true)

pub loop-preserved : goal.loop-preserved
loop-preserved c = search_on c.requires c.loop.invariant (omega (arith, c.loop.invariant.dist_length)) c.pass.ensures.sizes.0 c.pass.ensures.sizes.1 c.pass.ensures.passed (c.if-not-pass.false)

pub returns : goal.returns
returns c = search_ends c.requires c.loop.invariant (omega (arith, c.loop.invariant.dist_length))
