-- What the reader answers, and what the lent lists hold afterwards.
use Rattle.std.specs.Prelude.{◌≡◌, cond, List, ℕ, length, drop, Result, Ok, Err}
use Rattle.card_layout.specs.Layout.{value}
use Rattle.card_layout.specs.Card.{Side, Card, Reading, card, refused, read, states, count}
use Rattle.card_layout.specs.Lists.{Columns, roomy, filled}
use Rattle.card_reader.specs.declared.reader.Head.{Head}
use Rattle.card_reader.specs.declared.reader.Heads.{Heads}

-- what a model's first line says
abbrev pub HeadOf : Head → List ℕ → Type 0
HeadOf h bs = (h.states ≡ states bs) × (h.initial ≡ value (drop 6 bs)) × (h.transitions ≡ count bs)

-- the counts and settings of an accepted card
abbrev pub head_of : Side → Head
head_of s = record { states = length s.classes; initial = s.initial; transitions = length s.transitions }

abbrev pub heads_of : Card → Heads
heads_of c = record { left = head_of c.left; right = head_of c.right; epsilon = c.epsilon; rho = c.rho }

-- the answer: the refusal by its number, or the counts and settings; 7 if a column is short
abbrev pub answer : Reading → Columns → Result Heads ℕ
answer (refused n) k = Err n
answer (card c) k = cond (roomy c k) (Ok (heads_of c)) (Err 7)

-- the columns afterwards: untouched by a refusal
abbrev pub after : Reading → Columns → Columns
after (refused n) k = k
after (card c) k = cond (roomy c k) (filled c k) k

-- the reader's whole outcome on bytes and columns
pub record Answered (bs : List ℕ) (k : Columns) (r : Result Heads ℕ) (k' : Columns) : Type 0 where
  pub answers : r ≡ answer (read bs) k
  pub leaves : k' ≡ after (read bs) k
