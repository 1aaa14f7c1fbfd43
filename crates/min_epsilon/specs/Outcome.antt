-- What `min_epsilon` answers, and what it leaves in the bytes of the relation.
use Rattle.std.specs.Prelude.{◌≡◌, ℕ, zero, suc, Bool, Option, Some, None, Result, Ok, Err, List, length, replicate, Float}
use Rattle.bisim_core.specs.Data.{Columns}
use Rattle.bisim_core.specs.declared.wlts.Shape.{Shape}
use Rattle.epsdelta_theory.specs.Refusal.{bisimilar_refusal, min_epsilon_refusal}
use Rattle.epsdelta_theory.specs.MinEpsilon.{Search, alike_at, min_epsilon}
use Rattle.epsdelta_theory.specs.MinEpsilon as search
use Rattle.epsdelta.specs.declared.asked.Sides.{Sides}
use Rattle.epsdelta.specs.Outcome.{Outcome, ends}
use Rattle.epsdelta.specs.Sides.{of_sides}

-- what the search found
abbrev pub found : search.Least → Option Float
found (search.at ε) = Some ε
found search.none = None

-- what the search found and every byte zero, or the number of the check that failed and the bytes as they were
abbrev pub settled : ℕ → List ℕ → Search → Outcome (Result (Option Float) ℕ)
settled zero store x = ends (Ok (found x.least)) (replicate (length store) 0)
settled (suc r) store x = ends (Err (suc r)) store

-- two models handed in, classes, ρ and the bytes lent for the relation
abbrev pub outcome : Shape → Columns → Shape → Columns → List ℕ → List ℕ → Float → List ℕ → Outcome (Result (Option Float) ℕ)
outcome SL ML SR MR cl cr ρ store = settled (min_epsilon_refusal SL ML SR MR cl cr ρ (length store)) store (min_epsilon SL ML SR MR cl cr ρ)

-- bytes, and what a run leaves of them: as many zeros
abbrev pub Cleared : List ℕ → List ℕ → Type 0
Cleared store out = out ≡ replicate (length store) 0

-- of two models with their classes: are the initial states related at this ρ and ε
abbrev pub alike : Sides → Float → Float → Bool
alike B = of_sides alike_at B

-- what is refused at this ε and ρ, with so many bytes, and of the search
abbrev pub refusal_at : Sides → Float → Float → ℕ → ℕ
refusal_at B = of_sides bisimilar_refusal B

abbrev pub refusal : Sides → Float → ℕ → ℕ
refusal B = of_sides min_epsilon_refusal B
