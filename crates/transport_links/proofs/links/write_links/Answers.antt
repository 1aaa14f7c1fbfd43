-- `links::write_links` meets its contract: where there is room all links are written (Rooms).
use mathlib.Core.Path.{sym, ◌∙◌}
use Rattle.transport_links.proofs.Rooms.{writable, written_all}
use Rattle.transport_links.proofs.links.write_links.Goals as goal

pub put_links-requires : goal.put_links-requires
put_links-requires c = writable c.args.of.now.left.now c.args.of.now.right.now c.args.of.now.costs.now c.args.rows.now.heads.now c.args.rows.now.caps.now c.args.rows.now.prices.now c.in_ok-places.ensures (sym c.has_room.ensures ∙ c.if-not-has_room.false)

pub returns-clause-written : goal.returns-clause-written
returns-clause-written c = written_all c.args.of.now.left.now c.args.of.now.right.now c.args.of.now.costs.now c.args.rows.now.heads.now c.args.rows.now.caps.now c.args.rows.now.prices.now c.in_ok-places.ensures (sym c.has_room.ensures ∙ c.if-not-has_room.false) c.put_links.ensures.heads c.put_links.ensures.caps c.put_links.ensures.prices
