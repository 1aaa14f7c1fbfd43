-- What the exported functions on networks return and leave.
use Rattle.std.specs.Prelude.{ℕ, Bool, ◌&&◌, List, eqb, length, Result, Ok, Err, Float}
use Rattle.flow_theory.specs.Run.{max_flow}
use Rattle.flow_theory.specs.Rows.{network}
use Rattle.flow_check.specs.Refusal.{accepts, refused_unless}
use Rattle.flow_core.specs.Outcome.{Outcome, settled}
use Rattle.flow.specs.declared.network.FlowNetwork.{FlowNetwork}
use Rattle.flow.specs.Network.{Made, leaves}

-- a network in rows is accepted: it has 67 starts, of which one more than there are nodes count
abbrev pub accepts_rows : List ℕ → List Float → List Float → List ℕ → List ℕ → ℕ → ℕ → ℕ → Bool
accepts_rows H c p starts list n s t = eqb (length starts) 67 && accepts H c p starts list n s t

-- the run on it, or refusal 15 with the capacities as they were
abbrev pub flow_rows : List ℕ → List Float → List Float → List ℕ → List ℕ → ℕ → ℕ → ℕ → Outcome
flow_rows H c p starts list n s t = settled (accepts_rows H c p starts list n s t) (max_flow (network H n s t) c) c

-- the number of the check that a network in rows fails, 0 if it is accepted
abbrev pub network_refusal : List ℕ → List Float → List Float → List ℕ → List ℕ → ℕ → ℕ → ℕ → ℕ
network_refusal H c p starts list n s t = refused_unless (accepts_rows H c p starts list n s t)

-- what making a network leaves in place of N: the new one; a refusal keeps N
abbrev pub kept : Result FlowNetwork ℕ → FlowNetwork → Made
kept (Ok M) N = leaves 0 M
kept (Err k) N = leaves k N
