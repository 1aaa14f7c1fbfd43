-- `links::write_links` meets its contract: rows that fit have their links written where there is room (Fitting).
use Rattle.std.proofs.Common.{rules}
use mathlib.Core.Path.{sym, ◌∙◌}
use Rattle.flow_links.proofs.Fitting.{fit, room, done_is}
use Rattle.flow_links.proofs.links.write_links.Goals as goal

pub put_links-requires-clause-free : goal.put_links-requires-clause-free
put_links-requires-clause-free c = room (fit c.args.test.now.left.targets.now c.args.test.now.left.rates.now c.args.test.now.right.targets.now c.args.test.now.right.rates.now c.args.test.now.states (sym c.fits.ensures ∙ c.if-not-fits.false)) c.args.test.now.relation.now c.args.heads.now c.args.caps.now (sym c.has_room.ensures ∙ c.if-not-has_room.false) (sym c.has_room-else-not-has_room.ensures ∙ c.if-not-has_room-2.false)

pub returns : goal.returns
returns c =
    let d = done_is _ _ _ _ _ (sym c.fits.ensures ∙ c.if-not-fits.false) _ _ _ (sym c.has_room.ensures ∙ c.if-not-has_room.false) (sym c.has_room-else-not-has_room.ensures ∙ c.if-not-has_room-2.false) c.put_links.ensures.added in
    let s = sym c.put_links.ensures.same.0 in
    let t = sym c.put_links.ensures.same.1 in
    record {
      places = d.0;
      heads_after = let e = d.1 in search rules;
      caps_after = let e = d.2 in search rules;
    }
