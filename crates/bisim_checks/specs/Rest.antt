-- What is asked beside the models or chains.
use Rattle.std.specs.Prelude.{ℕ, List, [], ◌∷◌, length, Float}
use Rattle.distance_theory.specs.declared.Goal.{Goal}
use Rattle.distance_theory.specs.declared.MetricOptions.{MetricOptions}
use Rattle.distance_theory.specs.declared.lent.Scratch.{Scratch}
use Rattle.bisim_checks.specs.declared.rest.Rest.{Rest}

-- a goal, the lengths of the lists of pairs of scratch, and so many contribution records
abbrev pub rest_of : Goal → Scratch → ℕ → Rest
rest_of g s n = record { goal = g; lefts = length s.lefts.now; rights = length s.rights.now; codes = length s.codes.now; records = n }

-- f of γ, options, the lengths of the lists of pairs, and how many contribution records there are
abbrev pub of_rest : {A : Type 0} → (Float → MetricOptions → List ℕ → ℕ → A) → Rest → A
of_rest f r = f r.goal.gamma r.goal.options (r.lefts ∷ r.rights ∷ r.codes ∷ []) r.records
