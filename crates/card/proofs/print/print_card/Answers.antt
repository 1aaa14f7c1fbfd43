-- `print::print_card` meets its contract: the left model is built as the definition says, and has the states of its head.
use mathlib.Core.Path.{◌∙◌}
use Rattle.card_reader.specs.Lent.{columns_of}
use Rattle.card_relation.proofs.Relates.{retold}
use Rattle.card_models.proofs.Builds.{built_few, left_is}
use Rattle.card.proofs.Prints.{from_blank}
use Rattle.card.proofs.print.print_card.Goals as goal

pub print_right-requires : goal.print_right-requires
print_right-requires c =
    let p = c.requires in
    let a = c.args in
    (built_few _ _ a.heads.left 0 (columns_of a.lists.now) (from_blank _ _ _ c.build_listed-left.ensures.built (c.lend-store.ensures ∙ c.new-arrays.ensures)) p.0.left_few, p.0, p.1)

pub returns : goal.returns
returns c =
    let a = c.args in
    retold (left_is _ _ a.heads (columns_of a.lists.now) (from_blank _ _ _ c.build_listed-left.ensures.built (c.lend-store.ensures ∙ c.new-arrays.ensures))) c.print_right.ensures
