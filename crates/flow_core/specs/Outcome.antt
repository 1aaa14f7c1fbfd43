-- What a flow run answers, and what it leaves.
use Rattle.std.specs.Prelude.{◌≡◌, ℕ, ◌/◌, Bool, true, false, Result, Ok, Err, List, length, Float}
use Rattle.flow_theory.specs.Run.{FlowRun, max_flow, all_pushes}
use Rattle.flow_theory.specs.Rows.{network}
use Rattle.flow_theory.specs.Claim.{FlowClaim}
use Rattle.flow_check.specs.Refusal.{accepts}
use Rattle.flow_check.specs.declared.Course.{Course}
use Rattle.flow_core.specs.declared.Flow.{Flow}

-- the answer, its refusal by number, and the capacities that the run leaves
pub record Outcome : Type 0 where
  pub answer : Result Flow ℕ
  pub caps : List Float

abbrev pub ends : Result Flow ℕ → List Float → Outcome
ends a c = record { answer = a; caps = c }

-- an accepted network is run: flow, phases and pushes; a refusal, 15, leaves the capacities as they were
abbrev pub settled : Bool → FlowRun → List Float → Outcome
settled true r c = ends (Ok (record { flow = r.total; phases = length r.phases; pushes = all_pushes r.phases })) r.cap
settled false r c = ends (Err 15) c

-- heads, capacities, costs, the starts and the links of the node lists, nodes, source, sink
abbrev pub flow_on : List ℕ → List Float → List Float → List ℕ → List ℕ → ℕ → ℕ → ℕ → Outcome
flow_on H c p starts list n s t = settled (accepts H c p starts list n s t) (max_flow (network H n s t) c) c

-- what is claimed of that run: V nodes, E added links, which are two links each
abbrev pub Claimed : List ℕ → List Float → List Float → List ℕ → List ℕ → ℕ → ℕ → ℕ → Type 0
Claimed H c p starts list n s t = accepts H c p starts list n s t ≡ true → FlowClaim (network H n s t) c (length H / 2) (max_flow (network H n s t) c)

-- both of a network that is lent, and its ends
abbrev pub flow_lent : Course → List Float → Outcome
flow_lent K c = flow_on K.net.heads.now c K.net.costs.now K.net.starts.now K.net.list.now K.net.nodes K.ends.source K.ends.sink

abbrev pub ClaimedLent : Course → List Float → Type 0
ClaimedLent K c = Claimed K.net.heads.now c K.net.costs.now K.net.starts.now K.net.list.now K.net.nodes K.ends.source K.ends.sink
