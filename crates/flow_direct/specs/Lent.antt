-- A flow test that is lent, and what its search holds: the words of flow_routes/proofs, of these structs.
use mathlib.Core.Path.{◌≡◌}
use Prim.Native.Nat.{ℕ, ◌≤◌, ◌<◌}
use mathlib.Core.Bool.{Bool}
use lib.ListN.{length}
use lib.Ieee.{Float}
use Rattle.std.specs.Prelude.{Option}
use Rattle.std.specs.declared.ops.ControlFlow.{ControlFlow}
use Rattle.flow_links.specs.declared.rows.Test.{Test}
use Rattle.flow_routes.specs.declared.Stop.{Stop}
use Rattle.flow_routes.specs.declared.Step.{Step}
use Rattle.flow_routes.specs.declared.Reached.{Reached}
use Rattle.flow_routes.proofs.Coding as coding
use Rattle.flow_routes.proofs.Pathing as pathing
use Rattle.flow_routes.proofs.Reaching as reaching
use Rattle.flow_direct.specs.declared.give.Rest.{Rest}
use Rattle.flow_direct.specs.declared.search.Search.{Search}
use Rattle.flow_direct.specs.declared.path.Path.{Path}

-- what is said of a test, if anything is known
abbrev pub Told : Test → Float → Option Bool → Type 0
Told T need known = reaching.Told T.left.targets.now T.left.rates.now T.right.targets.now T.right.rates.now T.states T.relation.now need known

-- what is left has an entry for each target, and room for each pair
abbrev pub Room : Rest → Type 0
Room R = coding.Room R.test.left.targets.now R.test.right.targets.now R.test.states R.lefts.now R.rights.now R.flows.now

-- the first pushes lead from what was left, a flow and a turn to what is left, the flow and the turn then
abbrev pub Giving : Rest → Float → ℕ → Rest → Float → ℕ → ℕ → Type 0
Giving R₀ t₀ i₀ R t i k =
    (R.test ≡ R₀.test)
    × coding.Giving R₀.test.left.targets.now R₀.test.right.targets.now R₀.test.states R₀.test.relation.now R₀.lefts.now R₀.rights.now R₀.flows.now t₀ i₀ R.lefts.now R.rights.now R.flows.now t i k

-- ---- a path

-- a whole path goes by targets of the test
abbrev pub Placed : Test → Path → Type 0
Placed T P = coding.Placed (length T.left.targets.now) (length T.right.targets.now) P.s P.lefts P.rights 1 0

-- there is room, and the path is whole
abbrev pub Along : Rest → Path → Type 0
Along R P = Room R × (P.s ≤ 8) × Placed R.test P

-- x is the least that is left on it
abbrev pub LeastIs : Rest → Path → Float → Type 0
LeastIs R P x = pathing.LeastIs (length R.test.right.targets.now) R.lefts.now R.rights.now R.flows.now P.s P.lefts P.rights x

-- x was pushed along it
abbrev pub Sends : Rest → Path → Float → Rest → Type 0
Sends R₀ P x R =
    (R.test ≡ R₀.test) × coding.Sized R₀.lefts.now R₀.rights.now R₀.flows.now R.lefts.now R.rights.now R.flows.now
    × pathing.SendsAll (length R₀.test.right.targets.now) R₀.lefts.now R₀.rights.now R₀.flows.now P.s P.lefts P.rights x R.lefts.now R.rights.now R.flows.now

-- ---- the search

-- there is a label for each target
abbrev pub Ready : Search → Type 0
Ready S = Room S.rest × (length S.labels.lefts.now ≡ length S.rest.test.left.targets.now) × (length S.labels.rights.now ≡ length S.rest.test.right.targets.now)

-- and a label s of the source that is tried, from 1 to 8; and a target of s to start from
abbrev pub Sourced : Search → ℕ → Type 0
Sourced S s = Ready S × (1 ≤ s) × (s ≤ 8)

abbrev pub Started : Search → ℕ → ℕ → Type 0
Started S s start = Ready S × (1 ≤ s) × (s ≤ 8) × (start < length S.rest.test.left.targets.now)

-- from a target at the source's label s a walk stops
abbrev pub Stopped : Search → ℕ → ℕ → Path → Stop → Type 0
Stopped S s start P stop =
    pathing.Stopped S.rest.test.left.targets.now S.rest.test.right.targets.now S.rest.test.states S.rest.test.relation.now S.rest.flows.now S.labels.lefts.now S.labels.rights.now s start P.lefts P.rights stop

-- a step was made from there
abbrev pub Stepped : Search → ℕ → ℕ → Search → Step → Type 0
Stepped S₀ s start S step =
    (S.rest.test ≡ S₀.rest.test)
    × pathing.Stepped S₀.rest.test.left.targets.now S₀.rest.test.right.targets.now S₀.rest.test.states S₀.rest.test.relation.now S₀.rest.lefts.now S₀.rest.rights.now S₀.rest.flows.now S₀.labels.lefts.now S₀.labels.rights.now s start S.rest.lefts.now S.rest.rights.now S.rest.flows.now S.labels.lefts.now S.labels.rights.now step

-- what one try comes to, from so far
abbrev pub Tried : Float → Search → Reached → Search → ControlFlow (Option Bool) Reached → Type 0
Tried need S₀ c S next =
    (S.rest.test ≡ S₀.rest.test)
    × reaching.Tried S₀.rest.test.left.targets.now S₀.rest.test.right.targets.now S₀.rest.test.states S₀.rest.test.relation.now need S₀.rest.lefts.now S₀.rest.rights.now S₀.rest.flows.now S₀.labels.lefts.now S₀.labels.rights.now c.label c.flow S.rest.lefts.now S.rest.rights.now S.rest.flows.now S.labels.lefts.now S.labels.rights.now next

-- so far the tries lead on, from the flow t₀
abbrev pub Settling : Float → Search → Float → Search → Reached → Type 0
Settling need S₀ t₀ S c =
    (S.rest.test ≡ S₀.rest.test)
    × pathing.Settling S₀.rest.test.left.targets.now S₀.rest.test.right.targets.now S₀.rest.test.states S₀.rest.test.relation.now need S₀.rest.lefts.now S₀.rest.rights.now S₀.rest.flows.now S₀.labels.lefts.now S₀.labels.rights.now t₀ S.rest.lefts.now S.rest.rights.now S.rest.flows.now S.labels.lefts.now S.labels.rights.now c.label c.flow

-- what is known at their end, if anything is
abbrev pub Settled : Float → Search → Float → Option Bool → Type 0
Settled need S t known =
    pathing.Settled S.rest.test.left.targets.now S.rest.test.right.targets.now S.rest.test.states S.rest.test.relation.now need S.rest.lefts.now S.rest.rights.now S.rest.flows.now S.labels.lefts.now S.labels.rights.now t known
