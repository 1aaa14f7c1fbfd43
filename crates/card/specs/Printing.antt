-- What is printed for any bytes: a refusal's line, or the report of the relation of a card's two models.
use Rattle.std.specs.Prelude.{List, ℕ}
use Rattle.card_layout.specs.Card.{Reading, card, refused, read}
use Rattle.card_report.specs.Report.{refusal_line}
use Rattle.card_models.specs.Models.{card_text}

-- a card, or what refuses the bytes
abbrev pub reading_text : Reading → List ℕ
reading_text (card c) = card_text c
reading_text (refused n) = refusal_line n

-- checks 1 and 2 line by line, then those of the card
unfoldable pub printed : List ℕ → List ℕ
unfolding read card_text
printed bs = reading_text (read bs)
