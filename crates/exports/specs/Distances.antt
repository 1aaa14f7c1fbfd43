-- The distance of chains, states and options that are given by their numbers.
use Rattle.std.specs.Prelude.{ℕ, Float}
use Rattle.chain_theory.specs.Columns.{ChainColumns}
use Rattle.distance_theory.specs.Outcome.{Lent, Outcome, ChainsOutcome, distance}
use Rattle.distance_theory.specs.declared.MetricOptions.{MetricOptions}
use Rattle.distance_replies.specs.Distances.{Replied, of_measured}
use Rattle.replies.specs.Chains.{shape}

abbrev pub options : Float → ℕ → ℕ → MetricOptions
options tolerance rounds top = record { tolerance = tolerance; max_rounds = rounds; top = top }

abbrev pub distance_of : ℕ → ℕ → ℕ → ChainColumns → ℕ → ℕ → ℕ → ChainColumns → Float → Float → ℕ → ℕ → Lent → Outcome
distance_of states entries initial C states' entries' initial' D γ tolerance rounds top m = distance (shape states entries initial) C (shape states' entries' initial') D γ (options tolerance rounds top) m

-- what is replied, and the memory
abbrev pub leaving : Replied → Lent → Replied × Lent
leaving a m = (a, m)

-- an outcome: its answer, behind references that held these, and its memory
abbrev pub by_numbers : Outcome → Float → Float → Float → ℕ → ℕ → ℕ → Replied × Lent
by_numbers O v e g p c r = leaving (of_measured O.answer v e g p c r) O.lent

-- what is replied, the memory, and the lists lent for both chains
abbrev pub leaving_chains : Replied → Lent → ChainColumns → ChainColumns → Replied × Lent × ChainColumns × ChainColumns
leaving_chains a m CL CR = (a, m, CL, CR)

-- an outcome of models: its answer, behind references that held these, its memory, and those lists
abbrev pub chains_by_numbers : ChainsOutcome → Float → Float → Float → ℕ → ℕ → ℕ → Replied × Lent × ChainColumns × ChainColumns
chains_by_numbers O v e g p c r = leaving_chains (of_measured O.answer v e g p c r) O.lent O.left_chain O.right_chain
