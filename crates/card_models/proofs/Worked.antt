-- The worked card of document 01, by computation.
use mathlib.Core.Path.{◌≡◌, refl}
use mathlib.Core.List.{[], ◌∷◌}
use lib.Ieee.{of_bits, of_int, lt, le, eq, add, div}
use Rattle.bisim_core.specs.Ids.{intern}
use Rattle.card_layout.specs.Layout.{lines}
use Rattle.card_layout.proofs.Claims.{worked}
use Rattle.card_models.specs.Models.{card_refusal, card_text}

-- it is not refused
pub worked_none : card_refusal worked ≡ 0
unfolding card_refusal of_bits of_int lt le div
worked_none = refl

-- it prints what document 01 shows
pub worked_text : card_text worked ≡ lines ((2 ∷ 2 ∷ 2 ∷ []) ∷ (0 ∷ 0 ∷ []) ∷ (1 ∷ 1 ∷ []) ∷ [])
unfolding card_text intern eq of_bits of_int lt le add div
worked_text = refl
