-- `columns::place` meets its contract.
use Rattle.card_layout.proofs.Steps.{place_space, place_digit}
use Rattle.card_layout.proofs.columns.place.Goals as goal

pub returns-then-n-p : goal.returns-then-n-p
returns-then-n-p c = place_space _ _ c.if-n-p.true

pub returns : goal.returns
returns c = place_digit _ _ c.if-n-p.false
