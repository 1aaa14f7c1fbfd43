-- `columns::number` meets its contract.
use native.Mathlib.Omega.{arith}
use Rattle.card_layout.proofs.Steps.{number_of}
use Rattle.card_layout.proofs.columns.number.Goals as goal

pub returns : goal.returns
returns c =
    (number_of c.args.bytes.now _ _ _ _ _ _ c.digit.ensures.0 c.digit-2.ensures.0 c.digit-3.ensures.0 c.digit-4.ensures.0 c.digit-5.ensures.0 c.digit-6.ensures.0, omega arith)
