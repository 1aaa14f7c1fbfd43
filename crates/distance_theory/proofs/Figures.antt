-- M1 to M10 of document 01 as one statement about the definitions, by computation.
use Rattle.std.specs.Prelude.{Some, Ok, Err}
use mathlib.Core.Path.{◌≡◌, refl}
use Prim.Native.Nat.{ℕ}
use mathlib.Core.Bool.{Bool, true, false}
use mathlib.Core.List.{List, [], ◌∷◌}
use lib.IntN.{pos, negsuc}
use lib.ListN.{take, replicate}
use lib.Ieee.{Float, fin, inf, of_bits}
use Rattle.numbers.specs.Real.{nought, one, half, eps}
use Rattle.bisim_core.specs.Data.{Columns, columns}
use Rattle.bisim_core.specs.declared.wlts.Shape.{Shape}
use Rattle.flow_theory.specs.Network.{Net}
use Rattle.flow_theory.specs.Run.{max_flow}
use Rattle.flow_theory.specs.Claim.{in_cut}
use Rattle.epsdelta_theory.specs.Epsdelta.{rates_close}
use Rattle.epsdelta_theory.specs.Refusal.{epsdelta_refusal}
use Rattle.epsdelta_theory.specs.Bisimilar.{bisimilar}
use Rattle.epsdelta_theory.specs.MinEpsilon.{at, min_epsilon}
use Rattle.chain_theory.specs.Columns.{ChainColumns, chain_columns, chain_of}
use Rattle.chain_theory.specs.declared.ChainShape.{ChainShape}
use Rattle.distance_theory.specs.Couplings.{metric}
use Rattle.distance_theory.specs.Rounds.{solve}
use Rattle.distance_theory.specs.Contributions.{occupancy}
use Rattle.distance_theory.specs.Outcome.{Lent, lent, Outcome, Measured, distance}
use Rattle.distance_theory.specs.declared.MetricOptions.{MetricOptions}
use Rattle.distance_theory.specs.declared.PairContribution.{PairContribution}

-- a chain of one state, with row (0, 1)
abbrev shape : ChainShape
shape = record { states = 1; entries = 1; initial = record { 0 = 0 } }

abbrev single : Float → ChainColumns
single r = chain_columns (0 ∷ 1 ∷ []) (0 ∷ []) (one ∷ []) (r ∷ [])

-- tolerance 1e-6
abbrev options : ℕ → MetricOptions
options rounds = record { tolerance = fin false 4722366482869645 (negsuc 71); max_rounds = rounds; top = 10 }

abbrev nothing : PairContribution
nothing = record { left = record { 0 = 0 }; right = record { 0 = 0 }; gap = nought; occupancy = nought; contribution = nought }

-- three lists of pairs, room for one share, and 64 records
abbrev memory : Lent
memory = lent (replicate 4096 0 ∷ replicate 4096 0 ∷ replicate 4096 0 ∷ []) (0 ∷ []) (nought ∷ []) (replicate 64 nothing)

abbrev ended : Float → ℕ → Outcome
ended γ rounds = distance shape (single nought) shape (single one) γ (options rounds) memory

abbrev answer : Float → ℕ → Measured
answer γ rounds = (ended γ rounds).answer

-- 1 - 2^-25, 2^-25 and 1 - 2^-39
abbrev value : Float
value = fin false 33554431 (negsuc 24)

abbrev bound : Float
bound = fin false 1 (negsuc 24)

abbrev time : Float
time = fin false 549755813887 (negsuc 38)

abbrev reply : Float → Float → ℕ → Measured
reply v b rounds = Ok (record { value = v; error_bound = b; gamma = half; pairs_explored = 1; contributions = 1; rounds = rounds })

-- ---- networks: source 0, middle 1, sink 2, with capacities 0.75, then 0.5; and one link

abbrev line : Net
line = record { heads = 1 ∷ 0 ∷ 2 ∷ 1 ∷ []; lists = (0 ∷ []) ∷ (1 ∷ 2 ∷ []) ∷ (3 ∷ []) ∷ []; source = 0; sink = 2 }

abbrev caps : List Float
caps = fin false 3 (negsuc 1) ∷ nought ∷ half ∷ nought ∷ []

abbrev link : Net
link = record { heads = 1 ∷ 0 ∷ []; lists = (0 ∷ []) ∷ (1 ∷ []) ∷ []; source = 0; sink = 1 }

-- ---- models: edges of one label that leave state 0, to state 1, or to states 1 and 2

abbrev two : Float
two = fin false 1 (pos 1)

abbrev model : ℕ → ℕ → Shape
model states edges = record { states = states; edges = edges; labels = 1; initial = Some (record { 0 = 0 }) }

abbrev arrow : Float → Columns
arrow w = columns (0 ∷ []) (0 ∷ 1 ∷ 1 ∷ []) (0 ∷ []) (1 ∷ []) (w ∷ [])

abbrev fork : Float → Float → Columns
fork v w = columns (0 ∷ []) (0 ∷ 2 ∷ 2 ∷ 2 ∷ []) (0 ∷ 0 ∷ []) (1 ∷ 2 ∷ []) (v ∷ w ∷ [])

-- the card's models, at ρ = 2
abbrev refusal : Float → ℕ
refusal ε = epsdelta_refusal (model 2 1) (arrow two) (model 2 1) (arrow (fin false 1 (pos 2))) (0 ∷ 1 ∷ []) (0 ∷ 1 ∷ []) ε two 2

-- rates 3, 1 against 2, 2 to classes 1, 2, at ρ = 1
abbrev alike : Float → Bool
alike ε = bisimilar (model 3 2) (fork (fin false 3 (pos 0)) one) (model 3 2) (fork two two) (0 ∷ 1 ∷ 2 ∷ []) (0 ∷ 1 ∷ 2 ∷ []) ε one

-- ---- the list of document 01

pub record Figures : Type 0 where
  -- γ 0 and 1 give 11
  pub m1 : (answer nought 200 ≡ Err 11) × (answer one 200 ≡ Err 11)
  -- ε = -0 is accepted
  pub m2 : refusal (fin true 0 (pos 0)) ≡ 0
  -- flow 0.5, one push, cut {source, middle}
  pub m3 : ((max_flow line caps).total ≡ half) × ((max_flow line caps).phases ≡ record { sink_level = 2; pushes = 1 } ∷ [])
      × (in_cut (max_flow line caps) 0 ∷ in_cut (max_flow line caps) 1 ∷ in_cut (max_flow line caps) 2 ∷ [] ≡ true ∷ true ∷ false ∷ [])
  -- one link of 1e-12: flow 0
  pub m4 : (max_flow link (eps ∷ nought ∷ [])).total ≡ nought
  -- value 1 - 2^-25, error bound 2^-25, 1 round
  pub m5 : answer half 200 ≡ reply value bound 1
  -- its occupancy is 1 - 2^-39
  pub m6 : (occupancy half 1 (solve (metric (chain_of shape (single nought)) (chain_of shape (single one)) half) (options 200)).policy).spent ≡ time ∷ []
  -- with 0 rounds, value 0, bound infinite
  pub m7 : answer half 0 ≡ reply nought (inf false) 0
  -- exit rates 2 and 4 pass at ρ = 2, fail at 1.5
  pub m8 : (rates_close two (fin false 1 (pos 2)) two ≡ true) × (rates_close two (fin false 1 (pos 2)) (fin false 3 (negsuc 0)) ≡ false)
  -- alike at ε 0.25, not at 0.2
  pub m9 : (alike (fin false 1 (negsuc 1)) ≡ true) × (alike (fin false 3602879701896397 (negsuc 53)) ≡ false)
  -- `min_epsilon` there is 0.25
  pub m10 : (min_epsilon (model 3 2) (fork (fin false 3 (pos 0)) one) (model 3 2) (fork two two) (0 ∷ 1 ∷ 2 ∷ []) (0 ∷ 1 ∷ 2 ∷ []) one).least ≡ at (fin false 1 (negsuc 1))

pub figures : Figures
unfolding distance occupancy solve metric chain_of epsdelta_refusal max_flow in_cut rates_close bisimilar min_epsilon of_bits
figures = record {
  m1 = (refl, refl);
  m2 = refl;
  m3 = (refl, refl, refl);
  m4 = refl;
  m5 = refl;
  m6 = refl;
  m7 = refl;
  m8 = (refl, refl);
  m9 = (refl, refl);
  m10 = refl;
}

-- the first record of M5 holds the one contribution
pub m6_record : take 2 (ended half 200).lent.records ≡ record { left = record { 0 = 0 }; right = record { 0 = 0 }; gap = one; occupancy = time; contribution = time } ∷ nothing ∷ []
unfolding distance of_bits
m6_record = refl
