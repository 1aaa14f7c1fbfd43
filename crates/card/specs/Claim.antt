-- What is claimed of what is printed.
use Rattle.std.specs.Prelude.{◌≡◌, ◌⊎◌, List, [], ◌∷◌, ℕ, suc, ◌≤◌, ltb, length, take}
use Rattle.numbers.specs.Lists.{In}
use Rattle.epsdelta_theory.specs.Refusal.{tolerances_outside}
use Rattle.epsdelta_theory.specs.Claim.{final, Sound}
use Rattle.card_layout.specs.Card.{Card, card, refused, read}
use Rattle.card_report.specs.Report.{report, refusal_line, most_report}
use Rattle.card_relation.specs.Relating.{parts}
use Rattle.card_models.specs.Models.{card_refusal, card_given}
use Rattle.card.specs.Printing.{printed}

-- the bytes are a card, and it is not refused
pub record Passes (bs : List ℕ) (c : Card) : Type 0 where
  pub reads : read bs ≡ card c
  pub none : card_refusal c ≡ 0

-- the line of 1, 2, 4 or 9 is printed
pub record Refuses (bs : List ℕ) : Type 0 where
  pub number : ℕ
  pub listed : In number (1 ∷ 2 ∷ 4 ∷ 9 ∷ [])
  pub line : printed bs ≡ refusal_line number

pub record Laws : Type 0 where
  -- the first 10,500 bytes decide what is printed
  pub first_bytes : (bs : List ℕ) → printed (take 10500 bs) ≡ printed bs
  -- what is printed fits the store
  pub fits : (bs : List ℕ) → length (printed bs) ≤ most_report
  -- bytes that are no card: the line of 1 or 2
  pub no_card : (bs : List ℕ) (n : ℕ) → read bs ≡ refused n → printed bs ≡ refusal_line n
  -- a card that is refused: the line of its number
  pub refused_card : (bs : List ℕ) (c : Card) (n : ℕ) → read bs ≡ card c → card_refusal c ≡ suc n → printed bs ≡ refusal_line (suc n)
  -- check 9 of a card is that ρ is below 1,024
  pub low_factor : (bs : List ℕ) (c : Card) → read bs ≡ card c → tolerances_outside (parts c.epsilon) (parts c.rho) ≡ ltb c.rho 1024
  -- a card that passes: the report of the final relation of its models, and that relation is sound
  pub passed : (bs : List ℕ) (c : Card) → Passes bs c → printed bs ≡ report (final (card_given c)) (length c.left.classes) (length c.right.classes)
  pub sound : (bs : List ℕ) (c : Card) → Passes bs c → Sound (card_given c)
  -- nothing else is printed
  pub only : (bs : List ℕ) → Refuses bs ⊎ ((c : Card) × Passes bs c)
