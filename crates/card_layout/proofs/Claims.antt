-- The claims of specs/Claim.antt hold; and the document's worked examples, by computation.
use mathlib.Core.Path.{◌≡◌, refl}
use mathlib.Core.List.{[], ◌∷◌, ◌++◌}
use Prim.Native.Nat.{ℕ, ◌^◌, ◌<◌}
use native.Mathlib.Omega.{arith}
use lib.Dec.{T, lit<, le→leb}
use lib.Ieee.{binary64, in_float}
use lib.Ieee.Back.{unsigned_back}
use lib.IntN.{pos}
use Rattle.card_layout.specs.Layout.{place, column, line, lines, digit, value, numbers, rows, starts}
use Rattle.card_layout.specs.Card.{Side, Card, side_text, layout, classes_in, transitions_in, side_in, SideWithin, Within, card, refused, read, side_fault, last_fault, fault, card_in}
use Rattle.card_layout.specs.Claim.{Laws}
use Rattle.card_layout.proofs.Faults.{which, too_large_lem}
use Rattle.card_layout.proofs.Cards.{read_layout, layout_read, layout_length, read_take}

-- ---- the claims

whole : (n : ℕ) → n < 1000000 → T (in_float binary64 (pos n))
unfolding in_float
whole n h = le→leb n (2 ^ 53) (let l : 1000000 < 2 ^ 53 = lit< tt in omega arith)

pub laws : Laws
laws = record {
  reads_back = read_layout;
  lays_again = layout_read;
  refuses = which;
  too_large = too_large_lem;
  greatest = layout_length;
  first_bytes = λ bs. read_take 10500 bs (omega arith);
  exact = λ m h. unsigned_back binary64 32 m.weight (whole m.weight h) (let l : 1000000 < 2 ^ 32 = lit< tt in omega arith);
}

-- ---- worked examples

pub nought : column 0 ≡ 32 ∷ 32 ∷ 32 ∷ 32 ∷ 32 ∷ 48 ∷ []
unfolding column place
nought = refl

pub rho : column 2048 ≡ 32 ∷ 32 ∷ 50 ∷ 48 ∷ 52 ∷ 56 ∷ []
unfolding column place
rho = refl

-- the document's card is within the sizes, and its bytes are read by computation
abbrev pub side : ℕ → Side
side w = record { initial = 0; classes = 0 ∷ 1 ∷ []; transitions = record { source = 0; label = 0; target = 1; weight = w } ∷ [] }

abbrev pub worked : Card
worked = record { left = side 2; right = side 4; epsilon = 0; rho = 2048 }

side_within : (w : ℕ) → w < 1000000 → SideWithin (side w)
side_within w h = record {
  few_states = omega arith;
  few_transitions = omega arith;
  initial_fits = omega arith;
  classes_fit = (omega arith, (omega arith, tt));
  transitions_fit = ((omega arith, (omega arith, (omega arith, (h, tt)))), tt);
}

pub worked_within : Within worked
worked_within = record { left_within = side_within 2 (omega arith); right_within = side_within 4 (omega arith); epsilon_fits = omega arith; rho_fits = omega arith }

pub worked_card : read (layout worked) ≡ card worked
unfolding read fault last_fault side_fault card_in side_in transitions_in classes_in layout side_text rows numbers value digit starts lines line column place
worked_card = refl

-- 33 states give 2 though nothing follows; without the line feed the same line gives 1
pub over : read (line (33 ∷ 0 ∷ 0 ∷ [])) ≡ refused 2
unfolding read fault last_fault side_fault card_in side_in rows numbers value digit starts lines line column place
over = refl

pub cut : read (column 33 ++ (column 0 ++ column 0)) ≡ refused 1
unfolding read fault last_fault side_fault card_in side_in rows numbers value digit starts lines line column place
cut = refl
