-- The chains that `bisim_distance` runs, in the lists lent for them, or the number of the first check that fails.
use Rattle.std.specs.Prelude.{ℕ, zero, suc, List, length, take, Float, Result, Ok, Err}
use Rattle.bisim_core.specs.Data.{Edge, Columns}
use Rattle.bisim_core.specs.declared.wlts.Shape.{Shape}
use Rattle.bisim_core.specs.Model.{model}
use Rattle.chain_theory.specs.Chain.{Chain, common_rate, uniformise, normalise}
use Rattle.chain_theory.specs.Columns.{ChainColumns, shape_of, columns_of}
use Rattle.chain_theory.specs.declared.ChainShape.{ChainShape}
use Rattle.chains.specs.Outcome.{laid}
use Rattle.distance_theory.specs.Refusal.{bisim_refusal}
use Rattle.distance_theory.specs.declared.MetricOptions.{MetricOptions}

-- the counts and initial states of both chains, and the lists
pub record Made : Type 0 where
  pub chains : Result (ChainShape × ChainShape) ℕ
  pub left_lists : ChainColumns
  pub right_lists : ChainColumns

abbrev pub made : Result (ChainShape × ChainShape) ℕ → ChainColumns → ChainColumns → Made
made x C D = record { chains = x; left_lists = C; right_lists = D }

-- the left model at the common rate, from a state of it, with its observations scaled together with those of the right one
abbrev pub left_of : List (List Edge) → ℕ → List Float → List (List Edge) → List Float → Chain
left_of L s seenL R seenR = uniformise L (common_rate L R) (normalise (take (length L) seenL) (take (length R) seenR)).left s

-- and the right model
abbrev pub right_of : List (List Edge) → List Float → List (List Edge) → ℕ → List Float → Chain
right_of L seenL R t seenR = uniformise R (common_rate L R) (normalise (take (length L) seenL) (take (length R) seenR)).right t

-- both over the front of the lists
unfoldable pub made_of : List (List Edge) → ℕ → List Float → ChainColumns → List (List Edge) → ℕ → List Float → ChainColumns → Made
unfolding common_rate uniformise normalise shape_of columns_of
made_of L s seenL C R t seenR D =
    let A = left_of L s seenL R seenR in
    let B = right_of L seenL R t seenR in
    made (Ok (shape_of A, shape_of B)) (laid (columns_of A) C) (laid (columns_of B) D)

-- of two models by their columns
abbrev pub models_made : Shape → Columns → ℕ → List Float → ChainColumns → Shape → Columns → ℕ → List Float → ChainColumns → Made
models_made SL ML s seenL C SR MR t seenR D = made_of (model SL ML) s seenL C (model SR MR) t seenR D

-- where a check fails its number, and the lists as they were
abbrev pub made_if : ℕ → Made → ChainColumns → ChainColumns → Made
made_if zero X C D = X
made_if (suc n) X C D = made (Err (suc n)) C D

-- two models, a state and observations of each, the lists lent for their chains, γ, options, the lengths of the lists of pairs, and how many contribution records there are
unfoldable pub bisim_made : Shape → Columns → ℕ → List Float → ChainColumns → Shape → Columns → ℕ → List Float → ChainColumns → Float → MetricOptions → List ℕ → ℕ → Made
unfolding bisim_refusal model made_of
bisim_made SL ML s seenL CL SR MR t seenR CR γ o lists records =
    made_if (bisim_refusal SL ML s seenL CL SR MR t seenR CR γ o lists records) (made_of (model SL ML) s seenL CL (model SR MR) t seenR CR) CL CR
