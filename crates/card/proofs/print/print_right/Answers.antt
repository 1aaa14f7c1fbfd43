-- `print::print_right` meets its contract: the right model is built as the definition says, and has the states of its head.
use mathlib.Core.Path.{◌∙◌}
use Rattle.build_theory.specs.Lent.{columns_in}
use Rattle.numbers.specs.Refuse.{numbered}
use Rattle.card_reader.specs.Lent.{columns_of}
use Rattle.card_relation.proofs.Relates.{retold}
use Rattle.card_models.proofs.Builds.{built_few, both_few, right_is}
use Rattle.card.proofs.Prints.{from_blank}
use Rattle.card.proofs.print.print_right.Goals as goal

pub print_both-requires : goal.print_both-requires
print_both-requires c =
    let p = c.requires in
    let a = c.args in
    (both_few (numbered a.left) (numbered c.build_listed-right.result) (numbered c.both_models.result) c.both_models.ensures p.0 (built_few _ _ a.heads.right a.heads.left.transitions (columns_of a.lists.now) (from_blank _ _ _ c.build_listed-right.ensures.built (c.lend-store.ensures ∙ c.new-arrays.ensures)) p.1.right_few), p.1.classes_room, p.2)

pub returns : goal.returns
returns c =
    let a = c.args in
    retold (right_is (numbered a.left) _ (numbered c.both_models.result) (columns_in a.left_store.now) _ a.heads (columns_of a.lists.now) c.both_models.ensures (from_blank _ _ _ c.build_listed-right.ensures.built (c.lend-store.ensures ∙ c.new-arrays.ensures))) c.print_both.ensures
