-- `bench::carry_in` meets its contract: the links are written, and all below is over them (Carries.carried).
use mathlib.Core.Path.{ap, subst⁻¹, ◌∙◌}
use Prim.Native.Nat.{ℕ}
use lib.ListN.{take}
use Rattle.std.specs.Prelude.{Option}
use Rattle.std.specs.Option.{unwrap_or}
use Rattle.transport_theory.proofs.TransportRows.{Carried}
use Rattle.transport.proofs.Carries.{carried, laid_places, laid_room}
use Rattle.transport.proofs.bench.carry_in.Goals as goal

pub ship_in-requires : goal.ship_in-requires
ship_in-requires c =
    let M = c.args.of.now in
    let P = c.args.plan.now in
    let W = c.write_links.new.rows in
    subst⁻¹ (λ (k : ℕ). Carried M.left.now M.right.now M.costs.now (take k W.heads.now) (take k W.caps.now) (take k W.prices.now) c.args.net.now.list P.rows.now P.columns.now P.masses.now)
    (c.unwrap_or-places.ensures ∙ ap (λ (o : Option ℕ). unwrap_or o 0) (laid_places c.requires _ _ _ _ c.write_links.ensures.written))
    (carried c.requires _ _ _ _ c.write_links.ensures.written)

-- each of them is there, of the prices and of the capacities
pub slice_bounds-links-end-3 : goal.slice_bounds-links-end-3
slice_bounds-links-end-3 c = (laid_room c.requires _ _ _ _ c.write_links.ensures.written c.unwrap_or-places.ensures).1.0

pub slice_bounds-links-end-4 : goal.slice_bounds-links-end-4
slice_bounds-links-end-4 c = (laid_room c.requires _ _ _ _ c.write_links.ensures.written c.unwrap_or-places.ensures).1.1

pub slice_bounds-ship_in-end : goal.slice_bounds-ship_in-end
slice_bounds-ship_in-end c = (laid_room c.requires _ _ _ _ c.write_links.ensures.written c.unwrap_or-places.ensures).0.0

pub slice_bounds-ship_in-end-2 : goal.slice_bounds-ship_in-end-2
slice_bounds-ship_in-end-2 c = (laid_room c.requires _ _ _ _ c.write_links.ensures.written c.unwrap_or-places.ensures).0.1
