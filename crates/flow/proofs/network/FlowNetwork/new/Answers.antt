-- `network::FlowNetwork::new` meets its contract: at most 66 nodes make a network without links.
use mathlib.Core.Path.{sym, ap}
use Prim.Native.Nat.{ℕ}
use mathlib.Core.Bool.{Bool, cond}
use borrow.Author.Tests.{le-leb, lt-leb}
use Rattle.std.specs.Prelude.{Result, Ok, Err}
use Rattle.flow.specs.Network.{bare}
use Rattle.flow.specs.declared.network.FlowNetwork.{FlowNetwork}
use Rattle.flow.proofs.network.FlowNetwork.new.Goals as goal

abbrev made_if : ℕ → Bool → Result FlowNetwork ℕ
made_if n b = cond b (Ok (bare n)) (Err 15)

pub returns-then-nodes-gt66 : goal.returns-then-nodes-gt66
returns-then-nodes-gt66 c = sym (ap (made_if c.args.nodes) (lt-leb _ _ c.if-nodes-gt66.true))

pub returns : goal.returns
returns c = rw c.empty-net.ensures (sym (ap (made_if c.args.nodes) (le-leb _ _ c.if-nodes-gt66.false)))
