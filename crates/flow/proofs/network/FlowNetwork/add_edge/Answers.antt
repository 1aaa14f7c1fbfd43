-- `network::FlowNetwork::add_edge` meets its contract: room, the link, then the network; the new links can be listed (Grows.listed).
use borrow.Author.Rules.{rules}
use mathlib.Core.Path.{◌≡◌, sym, ◌∙◌}
use borrow.Author.Tests.{le-leb}
use Prim.Native.Nat.{◌≤◌}
use native.Mathlib.Omega.{arith}
use lib.ListN.{length}
use Rattle.flow_check.proofs.Accepting.{indexable}
use Rattle.flow.specs.Network.{heads_of, caps_of, costs_of}
use Rattle.flow.proofs.Grows.{edge_fit, net_fit, listed}
use Rattle.flow.proofs.network.FlowNetwork.add_edge.Goals as goal

pub grow-requires : goal.grow-requires
grow-requires c =
    let N = c.args.self.now in
    let a = c.args.edge in
    let E = edge_fit N.nodes a.from a.to a.cap a.cost (sym c.fits.ensures ∙ c.if-not-fits.false) in
    let P = net_fit N (sym c.net_fits.ensures ∙ c.if-not-net_fits.false) in
    let whole : length N.links ≡ 2176 = search rules in
    let few : N.count ≤ 2174 = c.if-n-gt2174.false in
    (few, P.sizes.few, listed N.links N.count a.from a.to a.cap a.cost (omega arith) N.nodes few (indexable (heads_of N.count N.links) (caps_of N.count N.links) (costs_of N.count N.links) N.nodes P.sizes P.links) E.from_in E.to_in)

pub returns : goal.returns
returns c = rw (le-leb _ _ c.if-n-gt2174.false, sym c.fits.ensures ∙ c.if-not-fits.false, sym c.net_fits.ensures ∙ c.if-not-net_fits.false) c.grow.ensures
