-- The worked card of document 01, and refusals in their order, run by computation.
use Rattle.std.specs.Prelude.{Some, None, Option, Result, Ok, Err}
use Rattle.bisim_core.specs.declared.ids.StateId.{StateId}
use mathlib.Core.Path.{◌≡◌, refl}
use Prim.Native.Nat.{ℕ}
use mathlib.Core.Bool.{Bool, true, false}
use mathlib.Core.List.{List, [], ◌∷◌}
use lib.IntN.{pos}
use lib.Ieee.{Float, fin, nan, of_bits}
use Rattle.numbers.specs.Real.{nought}
use Rattle.bisim_core.specs.Data.{Columns, columns}
use Rattle.bisim_core.specs.declared.wlts.Shape.{Shape}
use Rattle.epsdelta_theory.specs.Refusal.{bisimilar_refusal}
use Rattle.epsdelta_theory.specs.Bisimilar.{bisimilar}
use Rattle.bisimilar.specs.Related.{related_outcome}
use Rattle.epsdelta.specs.Outcome.{Outcome, ends}
use Rattle.bisimilar.specs.Outcome.{bisimilar_outcome}

-- ---- the card's relation of 2 and 2 states, in two bytes

abbrev card_bytes : List ℕ
card_bytes = 165 ∷ 165 ∷ []

pairs : related_outcome 2 2 card_bytes 0 0 ∷ related_outcome 2 2 card_bytes 0 1 ∷ related_outcome 2 2 card_bytes 1 0 ∷ related_outcome 2 2 card_bytes 1 1 ∷ [] ≡ Ok true ∷ Ok false ∷ Ok false ∷ Ok true ∷ []
unfolding related_outcome
pairs = refl

-- 3 comes before 4, 4 before 7, and 7 before 10
orders : related_outcome 2001 2 [] 0 2 ∷ related_outcome 2 2 [] 0 2 ∷ related_outcome 1500 1500 [] 0 0 ∷ [] ≡ Err 3 ∷ Err 4 ∷ Err 7 ∷ []
unfolding related_outcome
orders = refl

-- ---- the card: a transition from 0 to 1, of weight 2 and of weight 4, ρ 2

shape : Option StateId → Shape
shape i = record { states = 2; edges = 1; labels = 1; initial = i }

line : ℕ → Columns
line k = columns (0 ∷ []) (0 ∷ 1 ∷ 1 ∷ []) (0 ∷ []) (1 ∷ []) (fin false 1 (pos k) ∷ [])

from : ℕ → Option StateId
from s = Some (record { 0 = s })

card : Option StateId → Option StateId → Float → List ℕ → Outcome (Result Bool ℕ)
card i j ε store = bisimilar_outcome (shape i) (line 1) (shape j) (line 2) (0 ∷ 1 ∷ []) (0 ∷ 1 ∷ []) ε (fin false 1 (pos 1)) store

-- bisimilar, and the third byte is zero too
alike : card (from 0) (from 0) nought (7 ∷ 7 ∷ 7 ∷ []) ≡ ends (Ok true) (0 ∷ 0 ∷ 0 ∷ [])
unfolding card shape line from bisimilar_refusal bisimilar of_bits
alike = refl

-- not if the right model starts in its state 1
apart : card (from 0) (from 1) nought (7 ∷ 7 ∷ []) ≡ ends (Ok false) (0 ∷ 0 ∷ [])
unfolding card shape line from bisimilar_refusal bisimilar of_bits
apart = refl

-- 8 comes before 9, and the bytes are kept
absent_first : card (from 0) None nan (7 ∷ 7 ∷ []) ≡ ends (Err 8) (7 ∷ 7 ∷ [])
unfolding card shape line from bisimilar_refusal bisimilar of_bits
absent_first = refl
