-- Which contributions are listed, for pairs in lists of their states.
use Prim.Native.Nat.{ℕ}
use mathlib.Core.Bool.{Bool, true, false, ◌&&◌}
use mathlib.Core.List.{List, [], map}
use lib.Dec.{leb, ltb}
use lib.ListN.{length, get_or, take}
use lib.Ieee.{Float, nan}
use Rattle.numbers.specs.Real.{nought}
use Rattle.numbers.specs.Lists.{span, all}
use Rattle.chain_theory.specs.Chain.{Chain}
use Rattle.distance_theory.specs.Pairs.{Pair, pair, most}
use Rattle.distance_theory.specs.Couplings.{Metric}
use Rattle.distance_theory.specs.Contributions.{contribution, listed}
use Rattle.distance_theory.specs.declared.MetricOptions.{MetricOptions}
use Rattle.distance_theory.specs.declared.PairContribution.{PairContribution}
use Rattle.std.specs.Prelude.{Result, Ok, Err}
use Rattle.distance_words.specs.Told.{row}
use Rattle.distance_words.specs.declared.told.Listed.{Listed}

-- a chain of which only the observations are known
abbrev pub observed : List Float → Chain
observed seen = record { rows = []; observations = seen; initial = 0 }

-- all that contributions depend on: the observations of both chains, and the pairs
abbrev pub observing : List Float → List Float → List Pair → Metric
observing seenL seenR found = record { left = observed seenL; right = observed seenR; gamma = nought; found = found; cost = [] }

-- pair k of those whose left and right states are listed, and the first n of them
abbrev pub pair_in : List ℕ → List ℕ → ℕ → Pair
pair_in lefts rights k = pair (get_or lefts k 0) (get_or rights k 0)

abbrev pub pairs_in : List ℕ → List ℕ → ℕ → List Pair
pairs_in lefts rights n = map (pair_in lefts rights) (span 0 n)

-- the record of pair k, and its contribution
abbrev pub record_of : List ℕ → List ℕ → List Float → List Float → List Float → ℕ → PairContribution
record_of lefts rights seenL seenR spent k = contribution (observing seenL seenR []) (pair_in lefts rights k) (get_or spent k nan)

abbrev pub share_of : List ℕ → List ℕ → List Float → List Float → List Float → ℕ → Float
share_of lefts rights seenL seenR spent k = (record_of lefts rights seenL seenR spent k).contribution

abbrev pub below : ℕ → ℕ → Bool
below n x = ltb x n

-- n states, each with an observation
abbrev pub known : ℕ → List ℕ → ℕ → Bool
known n states count = leb n (length states) && all (below count) (take n states)

-- at most 4,096 pairs, each with two observations and an occupancy, of which at most 64 are asked for
abbrev pub listable : ℕ → List ℕ → List ℕ → List Float → List Float → List Float → ℕ → Bool
listable n lefts rights seenL seenR spent top = leb n most && (leb top 64 && (leb n (length spent) && (known n lefts (length seenL) && known n rights (length seenR))))

-- what is answered: these contributions, or 4 where they can't be told
abbrev pub listing : Bool → List PairContribution → Result Listed ℕ
listing true cs = Ok (record { count = length cs; records = row cs })
listing false cs = Err 4

-- the contributions of the first n pairs, as many as the options ask for
abbrev pub listed_of : ℕ → List ℕ → List ℕ → List Float → List Float → List Float → MetricOptions → Result Listed ℕ
listed_of n lefts rights seenL seenR spent o = listing (listable n lefts rights seenL seenR spent o.top) (listed (observing seenL seenR (pairs_in lefts rights n)) o spent)
