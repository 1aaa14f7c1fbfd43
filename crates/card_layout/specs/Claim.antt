-- What is claimed of the card's layout and its reading.
use Rattle.std.specs.Prelude.{◌≡◌, Bool, true, ◌&&◌, ◌||◌, cond, List, ℕ, ◌≤◌, ◌<◌, T, eqb, length, take}
use Rattle.std.specs.Float.{binary64}
use Rattle.std.specs.Float.Ieee.{in_unsigned, to_unsigned}
use Rattle.card_layout.specs.Layout.{laid}
use Rattle.card_layout.specs.Card.{Transition, Card, layout, after_side, large, side_fault, card, refused, read, Within}
use Rattle.card_layout.specs.Lists.{weight_of}

-- a model's first line is as laid out, and has over 32 states or 200 transitions
abbrev pub too_large : List ℕ → Bool
too_large bs = laid 1 3 bs && large bs

-- a model is too large before any line is not as laid out: the left one, or the right one after a left one without a fault
abbrev pub large_first : List ℕ → Bool
large_first bs = too_large bs || (eqb (side_fault bs 0) 0 && too_large (after_side bs))

pub record Laws : Type 0 where
  -- reading what the layout writes gives the card back
  pub reads_back : (c : Card) → Within c → read (layout c) ≡ card c
  -- what is read as a card is a card within the sizes, and laid out again it is the same bytes
  pub lays_again : (bs : List ℕ) (c : Card) → read bs ≡ card c → (layout c ≡ bs) × Within c
  -- all other bytes are refused: with 2 exactly where a model is too large before any fault of layout, else with 1
  pub refuses : (bs : List ℕ) (n : ℕ) → read bs ≡ refused n → n ≡ cond (large_first bs) 2 1
  pub too_large : (bs : List ℕ) → large_first bs ≡ true → read bs ≡ refused 2
  -- no card takes more than 10,499 bytes, and the first 10,500 bytes of an input decide
  pub greatest : (c : Card) → Within c → length (layout c) ≤ 10499
  pub first_bytes : (bs : List ℕ) → read (take 10500 bs) ≡ read bs
  -- a weight of a card is the same whole number as binary64
  pub exact : (m : Transition) → m.weight < 1000000 → T (in_unsigned binary64 32 (weight_of m)) × (to_unsigned 32 (weight_of m) ≡ m.weight)
