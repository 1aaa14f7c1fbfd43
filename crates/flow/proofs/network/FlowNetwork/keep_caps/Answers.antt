use Rattle.std.proofs.Common.{rules, ◌≡◌, length, arith}
use lib.ListN.{take}
use lib.Seq.{length-take-le}
use Rattle.flow.proofs.Running.{keep_none, keep_on, keep_all}
use Rattle.flow.proofs.network.FlowNetwork.keep_caps.Goals as goal

pub loop-j-init : goal.loop-j-init
loop-j-init c = keep_none c.args.self.now (take c.min-n.result c.args.caps.now)

pub loop-j-preserved : goal.loop-j-preserved
loop-j-preserved c =
    let whole : length c.args.self.now.links ≡ 2176 = search rules in
    let e = c.min-n.ensures in
    keep_on c.args.self.now _ c.loop-j.invariant (let k = length-take-le c.min-n.result c.args.caps.now (omega arith) in omega arith) c.loop-j-test.true

pub returns : goal.returns
returns c =
    let whole : length c.args.self.now.links ≡ 2176 = search rules in
    let e = c.min-n.ensures in
    keep_all c.args.self.now c.args.caps.now c.min-n.result (omega arith) c.loop-j.invariant c.loop-j-test.false
