-- What `epsdelta_bisimilar` answers, and what it leaves in the bytes that are lent for the relation.
use Rattle.std.specs.Prelude.{ℕ, zero, suc, Bool, Result, Ok, Err, List, length, replicate, Float}
use Rattle.bisim_core.specs.Data.{Columns}
use Rattle.bisim_core.specs.declared.wlts.Shape.{Shape}
use Rattle.epsdelta_theory.specs.Refusal.{bisimilar_refusal}
use Rattle.epsdelta_theory.specs.Bisimilar.{bisimilar}
use Rattle.epsdelta.specs.Outcome.{Outcome, ends}

-- the number of the check that failed and the bytes as they were, or yes or no and every byte zero
abbrev pub judged_by : ℕ → Bool → List ℕ → Outcome (Result Bool ℕ)
judged_by zero b store = ends (Ok b) (replicate (length store) 0)
judged_by (suc r) b store = ends (Err (suc r)) store

-- two models handed in, classes, ε, ρ and the bytes lent for the relation
abbrev pub bisimilar_outcome : Shape → Columns → Shape → Columns → List ℕ → List ℕ → Float → Float → List ℕ → Outcome (Result Bool ℕ)
bisimilar_outcome SL ML SR MR cl cr ε ρ store = judged_by (bisimilar_refusal SL ML SR MR cl cr ε ρ (length store)) (bisimilar SL ML SR MR cl cr ε ρ) store
