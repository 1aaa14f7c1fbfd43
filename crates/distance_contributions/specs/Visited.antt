-- Contributions of pairs that are lent.
use Rattle.std.specs.Prelude.{ℕ, Bool, List, length, Float, Result}
use Rattle.distance_theory.specs.Contributions.{listed}
use Rattle.distance_theory.specs.declared.MetricOptions.{MetricOptions}
use Rattle.distance_theory.specs.declared.PairContribution.{PairContribution}
use Rattle.distance_theory.specs.declared.lent.Visited.{Visited}
use Rattle.distance_theory.proofs.Choosing.{Read}
use Rattle.distance_words.specs.declared.told.Listed.{Listed}
use Rattle.distance_words.proofs.Listing.{observing, pairs_in, record_of, share_of, listable, listed_of}

-- pair k can be read
abbrev pub ReadAt : Visited → ℕ → Type 0
ReadAt V k = Read V.pairs.lefts.now V.pairs.rights.now V.left.now V.right.now V.spent.now k

-- its record, and its contribution
abbrev pub record_at : Visited → ℕ → PairContribution
record_at V k = record_of V.pairs.lefts.now V.pairs.rights.now V.left.now V.right.now V.spent.now k

abbrev pub share_at : Visited → ℕ → Float
share_at V k = share_of V.pairs.lefts.now V.pairs.rights.now V.left.now V.right.now V.spent.now k

-- all of them can be listed, so many
abbrev pub listable_in : Visited → ℕ → Bool
listable_in V top = listable (length V.pairs.lefts.now) V.pairs.lefts.now V.pairs.rights.now V.left.now V.right.now V.spent.now top

-- those that are listed, and what is answered
abbrev pub all_in : Visited → MetricOptions → List PairContribution
all_in V o = listed (observing V.left.now V.right.now (pairs_in V.pairs.lefts.now V.pairs.rights.now (length V.pairs.lefts.now))) o V.spent.now

abbrev pub listed_in : Visited → MetricOptions → Result Listed ℕ
listed_in V o = listed_of (length V.pairs.lefts.now) V.pairs.lefts.now V.pairs.rights.now V.left.now V.right.now V.spent.now o
