-- A chain in memory: its columns, read as a chain and laid out from one.
use Rattle.std.specs.Prelude.{ℕ, ◌+◌, Bool, ◌&&◌, List, [], ◌∷◌, ◌++◌, map, length, get_or, take, leb, ltb, Float}
use Rattle.std.proofs.Math.Seq.{slice}
use Rattle.numbers.specs.Lists.{span}
use Rattle.epsdelta_theory.specs.Jumps.{Jump, jumps_of, targets, rates}
use Rattle.chain_theory.specs.Chain.{Chain}
use Rattle.chain_theory.specs.declared.ChainShape.{ChainShape}

-- where the entries of each state begin, the target and the probability of each entry, and an observation of each state
pub record ChainColumns : Type 0 where
  pub offsets : List ℕ
  pub targets : List ℕ
  pub probabilities : List Float
  pub observations : List Float

abbrev pub chain_columns : List ℕ → List ℕ → List Float → List Float → ChainColumns
chain_columns o t p r = record { offsets = o; targets = t; probabilities = p; observations = r }

-- where the entries of state s begin
abbrev pub begins : ChainColumns → ℕ → ℕ
begins C s = get_or C.offsets s 0

-- the targets and the probabilities of the entries of state s, and the entries
abbrev pub row_targets : ChainColumns → ℕ → List ℕ
row_targets C s = slice (begins C s) (begins C (s + 1)) C.targets

abbrev pub row_rates : ChainColumns → ℕ → List Float
row_rates C s = slice (begins C s) (begins C (s + 1)) C.probabilities

abbrev pub entries : ChainColumns → ℕ → List Jump
entries C s = jumps_of (row_targets C s) (row_rates C s)

-- they can be read
abbrev pub reads_row : ChainColumns → ℕ → Bool
reads_row C s = ltb (s + 1) (length C.offsets) && (leb (begins C s) (begins C (s + 1)) && (leb (begins C (s + 1)) (length C.targets) && leb (begins C (s + 1)) (length C.probabilities)))

-- the chain that the columns hold
unfoldable pub chain_of : ChainShape → ChainColumns → Chain
unfolding jumps_of span
chain_of H C = record { rows = map (entries C) (span 0 H.states); observations = take H.states C.observations; initial = H.initial.0 }

-- ---- the other way: row after row

-- where each row begins, x the first, and where the last ends
unfoldable pub starts_from : ℕ → List (List Jump) → List ℕ
starts_from x [] = x ∷ []
starts_from x (es ∷ rows) = x ∷ starts_from (x + length es) rows

-- all rows, one after the other
unfoldable pub joined : List (List Jump) → List Jump
joined [] = []
joined (es ∷ rows) = es ++ joined rows

-- the counts and columns of a chain
unfoldable pub shape_of : Chain → ChainShape
unfolding joined
shape_of A = record { states = length A.rows; entries = length (joined A.rows); initial = record { 0 = A.initial } }

unfoldable pub columns_of : Chain → ChainColumns
unfolding starts_from joined
columns_of A = chain_columns (starts_from 0 A.rows) (targets (joined A.rows)) (rates (joined A.rows)) A.observations
