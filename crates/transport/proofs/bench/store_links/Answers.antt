use Rattle.std.proofs.Common.{rules, ◌≡◌, length}
use native.Mathlib.Omega.{arith}
use Rattle.transport.proofs.Storing.{store_begins, store_on, store_ends}
use Rattle.transport.proofs.bench.store_links.Goals as goal

pub loop-i-init : goal.loop-i-init
loop-i-init c = store_begins c.args.net.now c.args.links.now.heads.now c.args.caps.now c.args.links.now.prices.now

pub loop-i-preserved : goal.loop-i-preserved
loop-i-preserved c =
    let whole : length c.args.net.now.links ≡ 2176 = search rules in
    let few = c.requires.0 in
    store_on c.args.net.now c.args.links.now.heads.now c.args.caps.now c.args.links.now.prices.now c.requires.1 c.requires.2 c.loop-i.invariant (omega arith) c.loop-i-test.true

pub returns : goal.returns
returns c = store_ends c.args.net.now c.args.links.now.heads.now c.args.caps.now c.args.links.now.prices.now c.requires.1 c.requires.2 c.loop-i.invariant c.loop-i-test.false _
