-- `reader::heads_of` meets its contract.
use native.Mathlib.Omega.{arith}
use Rattle.card_reader.proofs.Fills.{side_room, left_passes, right_passes, last_room, heads_found}
use Rattle.card_reader.proofs.reader.heads_of.Goals as goal

pub after_side-right-requires : goal.after_side-right-requires
after_side-right-requires c = left_passes c.args.s.now c.requires

pub after_side-last-requires : goal.after_side-last-requires
after_side-last-requires c = right_passes c.args.s.now _ c.requires c.after_side-right.ensures

pub first_line-requires : goal.first_line-requires
first_line-requires c = omega (arith, side_room c.args.s.now (left_passes c.args.s.now c.requires))

pub first_line-requires-2 : goal.first_line-requires-2
first_line-requires-2 c = omega (arith, side_room c.after_side-right.result.now (right_passes c.args.s.now _ c.requires c.after_side-right.ensures))

pub slice_bounds-number-count : goal.slice_bounds-number-count
slice_bounds-number-count c = omega (arith, last_room c.args.s.now _ c.requires c.after_side-right.ensures _ c.after_side-last.ensures)

pub slice_bounds-number-start : goal.slice_bounds-number-start
slice_bounds-number-start c = omega (arith, last_room c.args.s.now _ c.requires c.after_side-right.ensures _ c.after_side-last.ensures)

pub returns : goal.returns
returns c =
    heads_found c.args.s.now _ c.requires c.after_side-right.ensures _ c.after_side-last.ensures _ _ _ _ c.first_line.ensures c.first_line-2.ensures c.number.ensures.0 c.number-2.ensures.0
