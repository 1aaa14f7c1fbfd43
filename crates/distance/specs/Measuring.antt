-- What `distance` tells and leaves, but for the row of contribution records.
use Rattle.std.specs.Prelude.{ℕ, zero, suc, min, List, [], ◌∷◌, length, Float, Ok, Err}
use Rattle.chain_theory.specs.Columns.{ChainColumns, chain_of}
use Rattle.chain_theory.specs.declared.ChainShape.{ChainShape}
use Rattle.chain_theory.specs.Lent.{of_chain}
use Rattle.distance_theory.specs.Refusal.{distance_refusal}
use Rattle.distance_theory.specs.Outcome.{run, zeros, noughts, Lent, lent, Measured}
use Rattle.distance_theory.specs.declared.MetricOptions.{MetricOptions}
use Rattle.distance_theory.specs.declared.PairContribution.{PairContribution}
use Rattle.distance_theory.specs.declared.lent.Scratch.{Scratch}
use Rattle.distance_contributions.specs.Row.{written}
use Rattle.distance_run.specs.declared.question.Question.{Question}
use Rattle.distance_words.specs.Told.{Told, told_of, Ran, ran_as}

-- the run, and the lists all zero; a refusal of the arguments leaves them as they were
abbrev pub measured_if : ℕ → Told → List ℕ → List ℕ → List ℕ → List ℕ → List Float → Ran
measured_if zero t l r c p m = ran_as t (zeros l) (zeros r) (zeros c) (zeros p) (noughts m)
measured_if (suc k) t l r c p m = ran_as (Err (suc k)) l r c p m

-- two chains, γ, options, the lists that are lent, and the length of the row of records
abbrev pub measured_of : ChainShape → ChainColumns → ChainShape → ChainColumns → Float → MetricOptions → List ℕ → List ℕ → List ℕ → List ℕ → List Float → ℕ → Ran
measured_of HL CL HR CR γ o l r c p m records =
    measured_if (distance_refusal HL CL HR CR γ o (length l ∷ length r ∷ length c ∷ []) records) (told_of (run (chain_of HL CL) (chain_of HR CR) γ o (min (length p) (length m)))) l r c p m

-- of chains and lists that are lent
abbrev pub measured_on : Question → Scratch → ℕ → Ran
measured_on q s records =
    measured_of q.left.shape (of_chain q.left) q.right.shape (of_chain q.right) q.goal.gamma q.goal.options s.lefts.now s.rights.now s.codes.now s.places.now s.masses.now records

-- what is told, as the answer
abbrev pub answer_of : Told → Measured
answer_of (Ok a) = Ok a.distance
answer_of (Err k) = Err k

-- the contributions that are told go over the front of the row
abbrev pub row_of : Told → List PairContribution → List PairContribution
row_of (Ok a) rs = (written a.records a.distance.contributions rs).records
row_of (Err k) rs = rs

-- the answer, and the row of contribution records
pub record Handed : Type 0 where
  pub answer : Measured
  pub records : List PairContribution

abbrev pub handed : Measured → List PairContribution → Handed
handed a rs = record { answer = a; records = rs }

-- of what is told
abbrev pub hand_out : Told → List PairContribution → Handed
hand_out t rs = handed (answer_of t) (row_of t rs)

-- what is lent to `distance`: left and right states and codes of the pairs, the coupling store, and the row of records
abbrev pub memory : List ℕ → List ℕ → List ℕ → List ℕ → List Float → List PairContribution → Lent
memory l r c p m rs = lent (l ∷ r ∷ c ∷ []) p m rs

-- scratch, and the row of records
abbrev pub memory_of : Scratch → List PairContribution → Lent
memory_of s rs = memory s.lefts.now s.rights.now s.codes.now s.places.now s.masses.now rs
