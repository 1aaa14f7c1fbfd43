-- `columns::column` meets its contract.
use Rattle.card_layout.proofs.Steps.{column_of}
use Rattle.card_layout.proofs.columns.column.Goals as goal

pub returns : goal.returns
returns c =
    column_of c.args.n _ _ _ _ _ c.place.ensures c.place-2.ensures c.place-3.ensures
    c.place-4.ensures c.place-5.ensures
