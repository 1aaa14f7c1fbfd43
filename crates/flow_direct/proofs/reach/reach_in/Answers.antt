-- `reach::reach_in` meets its contract: the first pushes are enough, or the search says whether (Reaching).
use Rattle.std.proofs.Common.{rules}
use mathlib.Core.Path.{◌≡◌, ap, sym, ◌∙◌}
use native.Mathlib.Omega.{arith}
use lib.ListN.{length}
use Rattle.flow_links.specs.declared.rows.Test.{Test}
use Rattle.flow_routes.proofs.Reaching.{told_first, told_search}
use Rattle.flow_direct.proofs.Lasting.{room_first, entries_first, room_of, searched_from}
use Rattle.flow_direct.proofs.reach.reach_in.Goals as goal

pub returns-then-need-total : goal.returns-then-need-total
returns-then-need-total c = told_first _ _ (room_first c.args.test.now c.requires.0 c.requires.1 c.copy_from_slice.ensures.after c.copy_from_slice-2.ensures.after) c.requires.0.left.rates c.requires.0.right.rates (entries_first c.copy_from_slice.ensures.after) (entries_first c.copy_from_slice-2.ensures.after) c.requires.2 c.give_rows-total.ensures.2.1 c.args.need c.if-need-total.true

pub settle-requires : goal.settle-requires
settle-requires c =
    let (e, G) = c.give_rows-total.ensures.2 in
    let h : length c.begin.new.self.lefts.now ≡ length c.args.test.now.left.targets.now = search rules in
    let k : length c.begin.new.self.rights.now ≡ length c.args.test.now.right.targets.now = search rules in
    (room_of {T₀ = c.args.test.now} (room_first c.args.test.now c.requires.0 c.requires.1 c.copy_from_slice.ensures.after c.copy_from_slice-2.ensures.after) e G.sized, h ∙ ap (λ (T : Test). length T.left.targets.now) (sym e), k ∙ ap (λ (T : Test). length T.right.targets.now) (sym e))

pub returns : goal.returns
returns c =
    let (e, G) = c.give_rows-total.ensures.2 in
    let h : length c.begin.new.self.lefts.now ≡ length c.args.test.now.left.targets.now = search rules in
    let k : length c.begin.new.self.rights.now ≡ length c.args.test.now.right.targets.now = search rules in
    let a = G.sized.size_a ∙ ap length c.copy_from_slice.ensures.after ∙ c.requires.0.left.rates in
    let b = G.sized.size_b ∙ ap length c.copy_from_slice-2.ensures.after ∙ c.requires.0.right.rates in
    told_search _ _ (room_first c.args.test.now c.requires.0 c.requires.1 c.copy_from_slice.ensures.after c.copy_from_slice-2.ensures.after) c.requires.0.left.rates c.requires.0.right.rates (entries_first c.copy_from_slice.ensures.after) (entries_first c.copy_from_slice-2.ensures.after) c.requires.2 c.give_rows-total.ensures.2.1 c.args.need c.if-need-total.false c.give_rows-total.ensures.1 _ (searched_from _ _ _ _ _ _ _ _ e (omega arith) (omega arith) (λ i l. c.begin.ensures.lefts.1 i (omega arith)) (λ i l. c.begin.ensures.rights.1 i (omega arith)) c.settle.ensures)
