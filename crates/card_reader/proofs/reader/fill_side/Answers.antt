-- `reader::fill_side` meets its contract.
use Prim.Native.Nat.{◌+◌, ◌*◌, ◌-◌}
use native.Mathlib.Omega.{arith}
use mathlib.Core.Path.{ap, ◌∙◌}
use lib.ListN.{length, take, drop, length-drop}
use Rattle.card_layout.specs.Card.{states, classes_in}
use Rattle.card_layout.proofs.Cards.{length_classes}
use Rattle.card_layout.proofs.Steps.{rest_length}
use Rattle.card_layout.proofs.Writes.{put_from}
use Rattle.card_reader.proofs.Checks.{class_lines, transition_lines}
use Rattle.card_reader.proofs.Fills.{side_room, side_stored}
use Rattle.card_reader.proofs.reader.fill_side.Goals as goal

pub first_line-of-requires : goal.first_line-of-requires
first_line-of-requires c = omega (arith, side_room c.args.s.now c.requires.no_fault)

pub slice_bounds-lines-count : goal.slice_bounds-lines-count
slice_bounds-lines-count c = omega (arith, side_room c.args.s.now c.requires.no_fault)

pub slice_bounds-lines-start : goal.slice_bounds-lines-start
slice_bounds-lines-start c = omega (arith, side_room c.args.s.now c.requires.no_fault)

pub slice_bounds-fill_transitions-count : goal.slice_bounds-fill_transitions-count
slice_bounds-fill_transitions-count c =
    let s = c.args.s.now in
    let n = c.first_line-of.ensures.0 in
    omega (arith, side_room s c.requires.no_fault, rest_length 19 s)

pub slice_bounds-fill_transitions-start : goal.slice_bounds-fill_transitions-start
slice_bounds-fill_transitions-start c =
    let s = c.args.s.now in
    let n = c.first_line-of.ensures.0 in
    omega (arith, side_room s c.requires.no_fault, rest_length 19 s)

pub fill_classes-requires : goal.fill_classes-requires
fill_classes-requires c =
    let s = c.args.s.now in
    let classes = c.args.lists.now.classes.now in
    let q = c.requires.in_classes in
    let n = c.first_line-of.ensures.0 in
    (omega (arith, side_room s c.requires.no_fault, rest_length 19 s), omega (arith, rest_length c.args.from classes))

pub fill_transitions-requires : goal.fill_transitions-requires
fill_transitions-requires c =
    let s = c.args.s.now in
    let q = c.requires.in_transitions in
    let n = c.first_line-of.ensures.0 in
    let m = c.first_line-of.ensures.2 in
    let a = ap length (transition_lines s _ _ n m) ∙ length-drop (19 + 7 * states s) s in (
      omega (arith, side_room s c.requires.no_fault),
      record {
        in_sources = rw m q.in_sources;
        in_labels = rw m q.in_labels;
        in_targets = rw m q.in_targets;
        in_weights = rw m q.in_weights;
      },
    )

pub returns-clause-stored : goal.returns-clause-stored
returns-clause-stored c =
    let b = c.args in
    let s = b.s.now in
    let q = c.requires.in_classes in
    let n = c.first_line-of.ensures.0 in
    let m = c.first_line-of.ensures.2 in
    let xs = classes_in c.first_line-of.result.states (take (length s - 19) (drop 19 s)) in
    let l = length_classes c.first_line-of.result.states (take (length s - 19) (drop 19 s)) in
    side_stored s _ _ n m b.from b.first b.lists.now.classes.now b.lists.now.sources.now b.lists.now.labels.now b.lists.now.targets.now b.lists.now.weights.now
    (class_lines s _ _ n m) (transition_lines s _ _ n m)
    (c.fill_transitions.ensures.kept ∙ put_from b.from b.lists.now.classes.now xs _ (omega arith) c.fill_classes.ensures) c.fill_transitions.ensures.stored
