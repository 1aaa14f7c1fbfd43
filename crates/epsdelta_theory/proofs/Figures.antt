-- M2, M8, M9, M10 and the worked card of document 01, run by computation; and the card is not refused, so that the theorem says something.
use Rattle.std.specs.Prelude.{Some, None}
use mathlib.Core.Path.{◌≡◌, refl}
use Prim.Native.Nat.{ℕ}
use mathlib.Core.Bool.{Bool, true, false}
use mathlib.Core.List.{[], ◌∷◌}
use lib.IntN.{pos, negsuc}
use lib.Ieee.{Float, fin, nan, of_bits}
use Rattle.numbers.specs.Bits.{packed}
use Rattle.numbers.specs.Real.{nought, one}
use Rattle.bisim_core.specs.Data.{Columns, columns}
use Rattle.bisim_core.specs.declared.wlts.Shape.{Shape}
use Rattle.epsdelta_theory.specs.Relation.{related}
use Rattle.epsdelta_theory.specs.Epsdelta.{rates_close, Given, given, epsdelta}
use Rattle.epsdelta_theory.specs.Refusal.{epsdelta_refusal, bisimilar_refusal, min_epsilon_refusal}
use Rattle.epsdelta_theory.specs.Claim.{Sound}
use Rattle.epsdelta_theory.specs.Bisimilar.{bisimilar}
use Rattle.epsdelta_theory.specs.MinEpsilon.{at, none, min_epsilon}
use Rattle.epsdelta_theory.proofs.Theorem.{epsdelta_sound}

abbrev two : Float
two = fin false 1 (pos 1)

abbrev four : Float
four = fin false 1 (pos 2)

-- 1.5
abbrev three_halves : Float
three_halves = fin false 3 (negsuc 0)

abbrev minus_zero : Float
minus_zero = fin true 0 (pos 0)

-- ---- M8: exit rates 2 and 4 pass at ρ = 2, fail at 1.5

m8_passes : rates_close two four two ≡ true
unfolding rates_close of_bits
m8_passes = refl

m8_fails : rates_close two four three_halves ≡ false
unfolding rates_close of_bits
m8_fails = refl

-- ---- the card: a transition from 0 to 1, of weight 2 and of weight 4, ε 0 and ρ 2

-- a model whose edges have one label and leave state 0, its initial state
abbrev shape : ℕ → ℕ → Shape
shape states edges = record { states = states; edges = edges; labels = 1; initial = Some (record { 0 = 0 }) }

abbrev line : Float → Columns
line w = columns (0 ∷ []) (0 ∷ 1 ∷ 1 ∷ []) (0 ∷ []) (1 ∷ []) (w ∷ [])

abbrev card : Given
card = given (shape 2 1) (line two) (shape 2 1) (line four) (0 ∷ 1 ∷ []) (0 ∷ 1 ∷ []) nought two

abbrev card_refusal : Float → ℕ → ℕ
card_refusal ε bytes = epsdelta_refusal (shape 2 1) (line two) (shape 2 1) (line four) (0 ∷ 1 ∷ []) (0 ∷ 1 ∷ []) ε two bytes

-- 0 with 0 and 1 with 1
card_pairs : (s t : ℕ) → Bool
card_pairs s t = related 4 2 (epsdelta card).relation s t

card_related : card_pairs 0 0 ∷ card_pairs 0 1 ∷ card_pairs 1 0 ∷ card_pairs 1 1 ∷ [] ≡ true ∷ false ∷ false ∷ true ∷ []
unfolding card_pairs related epsdelta given of_bits
card_related = refl

-- the bytes of the relation: 0 and 2 are related, and 1 and 3
card_bytes_lem : packed (epsdelta card).relation ≡ 165 ∷ 165 ∷ []
unfolding packed epsdelta given of_bits
card_bytes_lem = refl

card_accepted : card_refusal nought 2 ≡ 0
unfolding epsdelta_refusal of_bits
card_accepted = refl

card_sound : Sound card
card_sound = epsdelta_sound (shape 2 1) (line two) (shape 2 1) (line four) (0 ∷ 1 ∷ []) (0 ∷ 1 ∷ []) nought two 2 card_accepted

-- its 16 pairs need two bytes
card_short : card_refusal nought 1 ≡ 7
unfolding epsdelta_refusal of_bits
card_short = refl

-- checks go by number over both models: a left model without columns (4) beside a right one of 2,001 states (3)
by_number : epsdelta_refusal (shape 2 1) (columns [] [] [] [] []) (shape 2001 1) (line four) (0 ∷ 1 ∷ []) (0 ∷ 1 ∷ []) nought two 2 ≡ 3
unfolding epsdelta_refusal
by_number = refl

-- M2: ε = -0 is accepted; NaN is not
m2 : card_refusal minus_zero 2 ≡ 0
unfolding epsdelta_refusal of_bits
m2 = refl

card_nan : card_refusal nan 2 ≡ 9
unfolding epsdelta_refusal of_bits
card_nan = refl

-- ---- the card without an initial state

absent_refusal : Float → ℕ → ℕ
absent_refusal ε bytes = bisimilar_refusal (record { states = 2; edges = 1; labels = 1; initial = None }) (line two) (shape 2 1) (line four) (0 ∷ 1 ∷ []) (0 ∷ 1 ∷ []) ε two bytes

-- 8 comes before 9
absent_nan : absent_refusal nan 2 ≡ 8
unfolding absent_refusal bisimilar_refusal of_bits
absent_nan = refl

-- and after 7
absent_short : absent_refusal nan 1 ≡ 7
unfolding absent_refusal bisimilar_refusal of_bits
absent_short = refl

-- ---- M9: rates 3, 1 against 2, 2 to classes 1, 2, at ρ = 1

abbrev fork : Float → Float → Columns
fork v w = columns (0 ∷ []) (0 ∷ 2 ∷ 2 ∷ 2 ∷ []) (0 ∷ 0 ∷ []) (1 ∷ 2 ∷ []) (v ∷ w ∷ [])

m9 : Float → Bool
m9 ε = bisimilar (shape 3 2) (fork (fin false 3 (pos 0)) one) (shape 3 2) (fork two two) (0 ∷ 1 ∷ 2 ∷ []) (0 ∷ 1 ∷ 2 ∷ []) ε one

-- alike at ε 0.25
m9_alike : m9 (fin false 1 (negsuc 1)) ≡ true
unfolding m9 bisimilar of_bits
m9_alike = refl

-- not at 0.2
m9_apart : m9 (fin false 3602879701896397 (negsuc 53)) ≡ false
unfolding m9 bisimilar of_bits
m9_apart = refl

-- ---- M10: `min_epsilon` there is 0.25, after 16 runs

m10 : min_epsilon (shape 3 2) (fork (fin false 3 (pos 0)) one) (shape 3 2) (fork two two) (0 ∷ 1 ∷ 2 ∷ []) (0 ∷ 1 ∷ 2 ∷ []) one
    ≡ record { least = at (fin false 1 (negsuc 1)); tried = one ∷ nought ∷ fin false 1 (negsuc 0) ∷ fin false 1 (negsuc 1) ∷ fin false 1 (negsuc 2) ∷ fin false 3 (negsuc 3) ∷ fin false 7 (negsuc 4) ∷ fin false 15 (negsuc 5) ∷ fin false 31 (negsuc 6) ∷ fin false 63 (negsuc 7) ∷ fin false 127 (negsuc 8) ∷ fin false 255 (negsuc 9) ∷ fin false 511 (negsuc 10) ∷ fin false 1023 (negsuc 11) ∷ fin false 2047 (negsuc 12) ∷ fin false 4095 (negsuc 13) ∷ [] }
unfolding min_epsilon of_bits
m10 = refl

m10_accepted : min_epsilon_refusal (shape 3 2) (fork (fin false 3 (pos 0)) one) (shape 3 2) (fork two two) (0 ∷ 1 ∷ 2 ∷ []) (0 ∷ 1 ∷ 2 ∷ []) one 5 ≡ 0
unfolding min_epsilon_refusal of_bits
m10_accepted = refl

-- none for the card at ρ = 1.5, after the run at ε = 1
card_none : min_epsilon (shape 2 1) (line two) (shape 2 1) (line four) (0 ∷ 1 ∷ []) (0 ∷ 1 ∷ []) three_halves ≡ record { least = none; tried = one ∷ [] }
unfolding min_epsilon of_bits
card_none = refl
