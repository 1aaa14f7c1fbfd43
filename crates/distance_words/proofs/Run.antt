-- What a run answers and leaves, for chains that are handed in as columns.
use Prim.Native.Nat.{ℕ, ◌+◌, min}
use mathlib.Core.Bool.{Bool, true, false, not, ◌&&◌}
use mathlib.Core.List.{List}
use lib.Dec.{leb}
use lib.ListN.{length}
use lib.Ieee.{Float}
use Rattle.numbers.specs.Lists.{every}
use Rattle.chain_theory.specs.Columns.{ChainColumns, begins, chain_of}
use Rattle.chain_theory.specs.Check.{misshapen}
use Rattle.chain_theory.specs.declared.ChainShape.{ChainShape}
use Rattle.distance_theory.specs.Pairs.{most}
use Rattle.distance_theory.specs.declared.MetricOptions.{MetricOptions}
use Rattle.distance_theory.specs.Outcome.{run, zeros, noughts}
use Rattle.std.specs.Prelude.{Err}
use Rattle.distance_words.specs.Told.{Told, told_of, Ran, ran_as}

-- rows of at most 32 entries
abbrev pub slim : ChainShape → ChainColumns → Bool
slim H C = every (λ s. leb (begins C (s + 1)) (begins C s + 32)) H.states

-- at most 2,000 states, columns as check 4 wants them, such rows, and an observation of each state
abbrev pub fits : ChainShape → ChainColumns → Bool
fits H C = leb H.states 2000 && (not (misshapen H C) && (slim H C && leb H.states (length C.observations)))

-- room for 4,096 pairs
abbrev pub roomy : ℕ → ℕ → ℕ → Bool
roomy l r c = leb most l && (leb most r && leb most c)

-- two such chains, room for the pairs, and at most 64 contributions asked for
abbrev pub runnable : ChainShape → ChainColumns → ChainShape → ChainColumns → ℕ → ℕ → ℕ → ℕ → Bool
runnable HL CL HR CR top l r c = fits HL CL && (fits HR CR && (leb top 64 && roomy l r c))

-- a run leaves the lists all zero; what can't be run is refused, with the lists as they were
abbrev pub ran_if : Bool → Told → List ℕ → List ℕ → List ℕ → List ℕ → List Float → Ran
ran_if true t l r c p m = ran_as t (zeros l) (zeros r) (zeros c) (zeros p) (noughts m)
ran_if false t l r c p m = ran_as (Err 4) l r c p m

-- the run of two chains
abbrev pub ran_of : ChainShape → ChainColumns → ChainShape → ChainColumns → Float → MetricOptions → List ℕ → List ℕ → List ℕ → List ℕ → List Float → Ran
ran_of HL CL HR CR γ o l r c p m =
    ran_if (runnable HL CL HR CR o.top (length l) (length r) (length c)) (told_of (run (chain_of HL CL) (chain_of HR CR) γ o (min (length p) (length m)))) l r c p m
