-- `reader::fill_card` meets its contract.
use native.Mathlib.Omega.{arith}
use mathlib.Core.Path.{◌∙◌}
use Rattle.card_reader.specs.Lent.{columns_of}
use Rattle.card_reader.proofs.Fills.{side_room, left_passes, left_room, right_room, card_stored}
use Rattle.card_reader.proofs.reader.fill_card.Goals as goal

pub first_line-left-requires : goal.first_line-left-requires
first_line-left-requires c = omega (arith, side_room c.args.s.now (left_passes c.args.s.now c.requires.0))

pub after_side-requires : goal.after_side-requires
after_side-requires c = left_passes c.args.s.now c.requires.0

pub fill_side-requires : goal.fill_side-requires
fill_side-requires c = left_room c.args.s.now c.requires.0 (columns_of c.args.lists.now) c.requires.1

pub fill_side-requires-2 : goal.fill_side-requires-2
fill_side-requires-2 c =
    let b = c.args in
    let e = c.first_line-left.ensures in
    right_room b.s.now c.requires.0 (columns_of b.lists.now) c.requires.1 _ c.after_side.ensures _ _ e.0 e.2 _ c.fill_side.ensures.stored

pub returns-clause-filled : goal.returns-clause-filled
returns-clause-filled c =
    let b = c.args in
    let e = c.first_line-left.ensures in
    c.fill_side-2.ensures.stored
    ∙ card_stored b.s.now c.requires.0 (columns_of b.lists.now) c.requires.1 _ c.after_side.ensures _ _ e.0 e.2 _ c.fill_side.ensures.stored
