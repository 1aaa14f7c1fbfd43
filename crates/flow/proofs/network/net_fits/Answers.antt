-- `network::net_fits` meets its contract: the links stand in front of the rows (Grows.fits_rows).
use Rattle.std.proofs.Common.{rules, ◌≡◌, ◌≤◌, length, arith}
use mathlib.Core.Path.{ap, ◌∙◌}
use lib.ListN.{take}
use Rattle.flow_check.specs.Refusal.{network_fits}
use Rattle.flow.specs.Network.{Seen}
use Rattle.flow.proofs.Running.{entered_front}
use Rattle.flow.proofs.Grows.{fits_rows}
use Rattle.flow.proofs.network.net_fits.Goals as goal

pub returns : goal.returns
returns c =
    let N = c.args.net.now in
    let whole : length N.links ≡ 2176 = search rules in
    let few : N.count ≤ length N.links = let p = c.requires in omega arith in
    c.fits.ensures ∙ ap (λ (s : Seen). network_fits s.heads (take N.count c.unpack.new.caps) s.costs s.starts s.list s.nodes) c.in_rows.ensures ∙ fits_rows N few _ _ _ _ _ _ (entered_front N.links N.count few _ _ _ c.unpack.ensures)
