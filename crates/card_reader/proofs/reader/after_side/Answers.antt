-- `reader::after_side` meets its contract.
use native.Mathlib.Omega.{arith}
use Rattle.card_reader.proofs.Fills.{side_room, after_is}
use Rattle.card_reader.proofs.reader.after_side.Goals as goal

pub first_line-of-requires : goal.first_line-of-requires
first_line-of-requires c = omega (arith, side_room c.args.s.now c.requires)

pub slice_bounds-result-count : goal.slice_bounds-result-count
slice_bounds-result-count c = let e = c.first_line-of.ensures.0 in let f = c.first_line-of.ensures.2 in omega (arith, side_room c.args.s.now c.requires)

pub slice_bounds-result-start : goal.slice_bounds-result-start
slice_bounds-result-start c = let e = c.first_line-of.ensures.0 in let f = c.first_line-of.ensures.2 in omega (arith, side_room c.args.s.now c.requires)

pub returns : goal.returns
returns c = after_is c.args.s.now _ _ c.first_line-of.ensures.0 c.first_line-of.ensures.2
