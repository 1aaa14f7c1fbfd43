-- What `normalise` answers, and what it leaves in the observations of both chains.
use Rattle.std.specs.Prelude.{◌≡◌, ℕ, zero, suc, ◌||◌, List, take, Float, Result, Ok, Err}
use Rattle.numbers.specs.Real.{least_observation, greatest_weight}
use Rattle.numbers.specs.Refuse.{check}
use Rattle.numbers.specs.Lists.{every, all, over}
use Rattle.chain_theory.specs.Chain.{Scaled, normalise}
use Rattle.chain_theory.specs.Columns.{ChainColumns, chain_of}
use Rattle.std.specs.Float.Ieee.{le}
use Rattle.chain_theory.specs.Check.{proper, misshapen, unobserved, unfitting, improper}
use Rattle.chain_theory.specs.declared.ChainMut.{ChainMut}
use Rattle.chain_theory.specs.declared.ChainShape.{ChainShape}

-- two chains handed in: the first check that fails over both, 0 if none does
unfoldable pub normalise_refusal : ChainShape → ChainColumns → ChainShape → ChainColumns → ℕ
unfolding every all le proper chain_of
normalise_refusal HL CL HR CR =
    check 4 (misshapen HL CL || misshapen HR CR)
    (check 7 (unobserved HL CL || unobserved HR CR)
    (check 12 (unfitting least_observation greatest_weight HL.states CL.observations || unfitting least_observation greatest_weight HR.states CR.observations)
    (check 13 (improper HL CL || improper HR CR)
    0)))

-- the answer, and the observations of both chains
pub record Outcome : Type 0 where
  pub answer : Result Float ℕ
  pub left : List Float
  pub right : List Float

abbrev pub ends : Result Float ℕ → List Float → List Float → Outcome
ends a l r = record { answer = a; left = l; right = r }

-- those scaled over the front of what was there, or the number of the check that failed and the observations as they were
abbrev pub settled : ℕ → Scaled → List Float → List Float → Outcome
settled zero s l r = ends (Ok s.scale) (over s.left l) (over s.right r)
settled (suc n) s l r = ends (Err (suc n)) l r

unfoldable pub normalised : ChainShape → ChainColumns → ChainShape → ChainColumns → Outcome
unfolding normalise_refusal normalise
normalised HL CL HR CR = settled (normalise_refusal HL CL HR CR) (normalise (take HL.states CL.observations) (take HR.states CR.observations)) CL.observations CR.observations

-- a chain has its shape and its lists still; of these the observations alone may hold something else
abbrev pub SameChain : ChainMut → ChainMut → Type 0
SameChain C D = (D.shape ≡ C.shape) × (D.offsets ≡ C.offsets) × (D.targets ≡ C.targets) × (D.probs ≡ C.probs) × (D.observations.ghost_name ≡ C.observations.ghost_name)

-- ---- below the checks

-- the difference of the greatest and the least, and both lists
abbrev pub scaling : Float → List Float → List Float → Scaled
scaling x l r = record { scale = x; left = l; right = r }
