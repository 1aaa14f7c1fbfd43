-- What the exported functions on chains return, and what the references and lists lent to them then hold.
use Rattle.std.specs.Prelude.{ℕ, List, [], ◌∷◌, Float, Result, Ok, Err}
use Rattle.chain_theory.specs.Columns.{ChainColumns}
use Rattle.chain_theory.specs.declared.ChainShape.{ChainShape}
use Rattle.chains.specs.Outcome as chains
use Rattle.normalise.specs.Outcome as normalise
use Rattle.replies.specs.Answers.{number_of, held}

-- a chain's counts and initial state
abbrev pub shape : ℕ → ℕ → ℕ → ChainShape
shape n e s = record { states = n; entries = e; initial = record { 0 = s } }

-- the number returned, and what the reference then holds: a rate, or by how much the greatest observation is above the least
pub record Told : Type 0 where
  pub number : ℕ
  pub value : Float

-- those two
abbrev pub told : ℕ → Float → Told
told k x = record { number = k; value = x }

-- 0 and the number; or the refusal's number and what the reference held before
abbrev pub of_real : Result Float ℕ → Float → Told
of_real a x = told (number_of a) (held a x)

-- of the rate
abbrev pub of_rated : Result Float ℕ → Float → Told
of_rated a x = of_real a x

-- of the difference
abbrev pub of_normalised : Result Float ℕ → Float → Told
of_normalised a x = of_real a x

-- entries
abbrev pub of_uniformised : Result ChainShape ℕ → ℕ → List ℕ
of_uniformised (Ok H) n = 0 ∷ H.entries ∷ []
of_uniformised (Err k) n = k ∷ n ∷ []

-- what is told of `uniformise`, and the lists lent for the chain
pub record Made : Type 0 where
  pub told : List ℕ
  pub lists : ChainColumns

-- those two
abbrev pub makes : List ℕ → ChainColumns → Made
makes t C = record { told = t; lists = C }

-- the answer of `uniformise`, and the lists as it leaves them
abbrev pub made : chains.Outcome → ℕ → Made
made o n = makes (of_uniformised o.answer n) o.lists

-- what is told of `normalise`, and the observations of both chains
pub record Left : Type 0 where
  pub told : Told
  pub left : List Float
  pub right : List Float

-- those three
abbrev pub leaves : Told → List Float → List Float → Left
leaves t l r = record { told = t; left = l; right = r }

-- the answer of `normalise`, and the observations as it leaves them
abbrev pub scaled : normalise.Outcome → Float → Left
scaled o x = leaves (of_normalised o.answer x) o.left o.right
