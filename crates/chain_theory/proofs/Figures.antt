-- Small chains, by computation: a model made a chain, its columns read back, what is refused, and observations scaled together; and M1.
use Rattle.std.specs.Prelude.{Some}
use mathlib.Core.Path.{◌≡◌, refl}
use Prim.Native.Nat.{ℕ}
use mathlib.Core.Bool.{true, false}
use mathlib.Core.List.{List, [], ◌∷◌}
use lib.IntN.{pos, negsuc}
use lib.Ieee.{Float, fin, nan, of_bits, binary64, add, div, lt}
use Rattle.numbers.specs.Real.{nought, one, half}
use Rattle.bisim_core.specs.Data.{Edge, Columns, columns}
use Rattle.bisim_core.specs.Model.{model}
use Rattle.bisim_core.specs.declared.wlts.Shape.{Shape}
use Rattle.epsdelta_theory.specs.Jumps.{Jump}
use Rattle.chain_theory.specs.Chain.{Chain, exit_rate, common_rate, chain_row, uniformise, normalise}
use Rattle.chain_theory.specs.Columns.{chain_of, shape_of, columns_of}
use Rattle.chain_theory.specs.Check.{discount_outside, chain_refusal}

abbrev two : Float
two = fin false 1 (pos 1)

abbrev three : Float
three = fin false 3 (pos 0)

abbrev four : Float
four = fin false 1 (pos 2)

abbrev eighths : ℕ → Float
eighths n = fin false n (negsuc 2)

abbrev quarters : ℕ → Float
quarters n = fin false n (negsuc 1)

abbrev to : ℕ → Float → Jump
to t p = record { target = t; rate = p }

-- an edge of state 0
abbrev edge : ℕ → Float → Edge
edge t w = record { source = 0; label = 0; target = t; weight = w }

-- ---- M1: γ 0 and 1 give 11

m1_zero : discount_outside nought ≡ true
unfolding lt of_bits
m1_zero = refl

m1_one : discount_outside one ≡ true
unfolding lt of_bits
m1_one = refl

-- ---- two states: 0 to 1 with weights 1 and 2 by two labels, 1 to 0 with weight 1/2 and to itself with weight 8

abbrev shape : Shape
shape = record { states = 2; edges = 4; labels = 2; initial = Some (record { 0 = 1 }) }

abbrev columns_of_model : Columns
columns_of_model = columns (7 ∷ 5 ∷ []) (0 ∷ 2 ∷ 4 ∷ []) (0 ∷ 1 ∷ 0 ∷ 0 ∷ []) (1 ∷ 1 ∷ 0 ∷ 1 ∷ []) (one ∷ two ∷ half ∷ fin false 1 (pos 3) ∷ [])

-- the self-loop does not count
common_rate_lem : common_rate (model shape columns_of_model) [] ≡ three
unfolding model common_rate add of_bits
common_rate_lem = refl

-- nothing moves
common_still : common_rate [] ([] ∷ []) ≡ one
unfolding common_rate of_bits
common_still = refl

-- weights are added edge by edge, not target by target: 1/2, 2^52 and 1/2 to targets 1, 2 and 1 make 2^52
edge_by_edge : exit_rate (edge 1 half ∷ edge 2 (fin false 1 (pos 52)) ∷ edge 1 half ∷ []) ≡ fin false 1 (pos 52)
unfolding exit_rate add of_bits
edge_by_edge = refl

abbrev made : Chain
made = record { rows = (to 0 (quarters 1) ∷ to 1 (quarters 3) ∷ []) ∷ (to 0 (eighths 1) ∷ to 1 (eighths 7) ∷ []) ∷ []; observations = two ∷ four ∷ []; initial = 1 }

-- at rate 4 each state stays too; a third observation is not looked at
uniformised : uniformise (model shape columns_of_model) four (two ∷ four ∷ nan ∷ []) 1 ≡ made
unfolding model uniformise of_bits
uniformised = refl

read_back : chain_of (shape_of made) (columns_of made) ≡ made
unfolding chain_of shape_of columns_of
read_back = refl

accepted : chain_refusal nought four (shape_of made) (columns_of made) ≡ 0
unfolding chain_refusal shape_of columns_of of_bits
accepted = refl

observation_outside : chain_refusal nought one (shape_of made) (columns_of made) ≡ 12
unfolding chain_refusal shape_of columns_of of_bits
observation_outside = refl

-- at rate 2 the row of state 0 adds up to 3/2
at_two : Chain
at_two = uniformise (model shape columns_of_model) two (two ∷ four ∷ []) 1

sum_over : chain_refusal nought four (shape_of at_two) (columns_of at_two) ≡ 13
unfolding at_two model uniformise chain_refusal shape_of columns_of of_bits
sum_over = refl

-- ---- what is left to stay counts where it is above 1e-15: at rate 1 it is 1 less the weight

abbrev leaves : Float → List Edge
leaves w = edge 1 w ∷ []

-- 2^-50 is not, 2^-49 is
stay_small : chain_row one 0 (leaves (fin false 1125899906842623 (negsuc 49))) ≡ to 1 (fin false 1125899906842623 (negsuc 49)) ∷ []
unfolding chain_row of_bits
stay_small = refl

stay_large : chain_row one 0 (leaves (fin false 562949953421311 (negsuc 48))) ≡ to 0 (fin false 1 (negsuc 48)) ∷ to 1 (fin false 562949953421311 (negsuc 48)) ∷ []
unfolding chain_row of_bits
stay_large = refl

-- ---- observations: 2, 4 and 3, 1 scaled together, by the least and the greatest of all

normalised : normalise (two ∷ four ∷ []) (three ∷ one ∷ []) ≡ record { scale = three; left = div binary64 one three ∷ one ∷ []; right = div binary64 two three ∷ nought ∷ [] }
unfolding normalise div of_bits
normalised = refl

-- all 0 where the difference is 0
normalised_alike : normalise (two ∷ []) (two ∷ two ∷ []) ≡ record { scale = nought; left = nought ∷ []; right = nought ∷ nought ∷ [] }
unfolding normalise of_bits
normalised_alike = refl
