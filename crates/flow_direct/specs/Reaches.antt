-- Whether the flow of a flow test is enough.
use Rattle.std.specs.Prelude.{ℕ, Bool, true, false, not, ◌&&◌, ◌≡◌, List, Option, IsSomeAnd, Result, Ok, Err, Float}
use Rattle.std.specs.Float.Ieee.{le}
use Rattle.epsdelta_theory.specs.Jumps.{jumps_of}
use Rattle.flow_theory.specs.Run.{run, start}
use Rattle.epsdelta_theory.specs.FlowTest.{links_of, caps, network_between, run_between}
use Rattle.epsdelta_theory.specs.Relation.{relation_of}
use Rattle.flow_links.specs.Fits.{fits}
use Rattle.flow_links.specs.declared.rows.Test.{Test}
use Rattle.flow_direct.specs.declared.reach.Ways.{Ways}
use Rattle.flow_direct.specs.declared.reach.Ways.TheVariants as ways
use Rattle.flow_core.specs.declared.Flow.{Flow}

-- targets and rates of both rows, the states and the relation: the rows fit, and the flow of the run is at least what is needed
abbrev pub reaches : List ℕ → List Float → List ℕ → List Float → ℕ → List Bool → Float → Bool
reaches us vs ts ws n R need = fits us vs ts ws n && le need (run_between n R (jumps_of us vs) (jumps_of ts ws)).total

-- the rows fit, and the flow after the first phase of the run is less than what is needed
abbrev pub lacks : List ℕ → List Float → List ℕ → List Float → ℕ → List Bool → Float → Bool
lacks us vs ts ws n R need = fits us vs ts ws n && not (le need (run (network_between n R (jumps_of us vs) (jumps_of ts ws)) 1 (start (caps (links_of n R (jumps_of us vs) (jumps_of ts ws))))).total)

-- the flows of the runs from the one row to the other and back are
abbrev pub both_reach : List ℕ → List Float → List ℕ → List Float → ℕ → List Bool → Float → Bool
both_reach us vs ts ws n R need = reaches us vs ts ws n R need && reaches ts ws us vs n R need

-- of a test that is lent
abbrev pub test_reaches : Test → Float → Bool
test_reaches T need = reaches T.left.targets.now T.left.rates.now T.right.targets.now T.right.rates.now T.states (relation_of T.relation.now) need

abbrev pub test_lacks : Test → Float → Bool
test_lacks T need = lacks T.left.targets.now T.left.rates.now T.right.targets.now T.right.rates.now T.states (relation_of T.relation.now) need

abbrev pub back_lacks : Test → Float → Bool
back_lacks T need = lacks T.right.targets.now T.right.rates.now T.left.targets.now T.left.rates.now T.states (relation_of T.relation.now) need

abbrev pub test_both : Test → Float → Bool
test_both T need = both_reach T.left.targets.now T.left.rates.now T.right.targets.now T.right.rates.now T.states (relation_of T.relation.now) need

-- what is known of it and of the test back is so: whether both pass, that the flow is plenty, or that the first passes; what is not known lacks after the first phase
abbrev pub Known : Test → Float → Option Float → Ways → Type 0
Known T need plenty (ways.Both passes) = passes ≡ test_both T need
Known T need plenty ways.Plenty = IsSomeAnd plenty (λ x. test_reaches T x ≡ true)
Known T need plenty ways.Forth = (test_reaches T need ≡ true) × (back_lacks T need ≡ true)
Known T need plenty ways.Unknown = test_lacks T need ≡ true

-- the same of an answer; a refusal is no flow
abbrev pub at_least : Float → Result Flow ℕ → Bool
at_least need (Ok f) = le need f.flow
at_least need (Err k) = false
