-- `network::max_flow_in` meets its contract: the links keep what the run on the rows leaves (Running).
use Rattle.std.proofs.Common.{rules, ◌≡◌, ◌≤◌, length, arith}
use mathlib.Core.Path.{ap, ◌∙◌}
use mathlib.Core.List.{◌++◌}
use lib.ListN.{take, drop}
use Rattle.numbers.specs.Refuse.{numbered}
use Rattle.flow_core.specs.Outcome.{ends, flow_on}
use Rattle.flow.specs.Network.{Seen}
use Rattle.flow.proofs.Running.{entered_front, entered_wide, lent_front, lent_rest, lent_wide, run_done}
use Rattle.flow.proofs.network.max_flow_in.Goals as goal

pub returns : goal.returns
returns c =
    let N = c.args.net.now in
    let z = c.max_flow_rows-answer.new.caps in
    let k = c.max_flow_rows-answer.auto.caps in
    let whole : length N.links ≡ 2176 = search rules in
    let few : N.count ≤ length N.links = let p = c.requires.0 in omega arith in
    let E = entered_front N.links N.count few c.args.heads.now c.args.caps.now c.args.costs.now c.unpack.ensures in
    let there = entered_wide N.links N.count few c.args.caps.now E.1 in
    let wide = lent_wide N.count c.unpack.new.caps z there k in
    run_done N c.args.ends.source c.args.ends.sink c.args.heads.now c.args.caps.now c.args.costs.now c.requires.0 whole (numbered c.max_flow_rows-answer.result) (z ++ drop N.count c.unpack.new.caps)
    E c.keep_caps.ensures (
      ap (ends (numbered c.max_flow_rows-answer.result)) (lent_front N.count c.unpack.new.caps z there k) ∙ c.max_flow_rows-answer.ensures.caps_after
          ∙ ap (λ (s : Seen). flow_on s.heads (take N.count c.unpack.new.caps) s.costs s.starts s.list s.nodes c.args.ends.source c.args.ends.sink) c.in_rows-lent.ensures,
      lent_rest N.count c.unpack.new.caps z there k,
    )
    wide
