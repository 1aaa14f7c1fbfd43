-- The theorem of every flow run, for the networks that are not refused.
use mathlib.Core.Path.{◌≡◌}
use Prim.Native.Nat.{ℕ, ◌/◌}
use mathlib.Core.Bool.{true}
use mathlib.Core.List.{List}
use lib.ListN.{length}
use lib.Ieee.{Float}
use Rattle.flow_theory.specs.Run.{max_flow}
use Rattle.flow_theory.specs.Claim.{FlowClaim}
use Rattle.flow_theory.proofs.Theorem.{flow_run}
use Rattle.flow_theory.specs.Rows.{network}
use Rattle.flow_check.specs.Refusal.{accepts}
use Rattle.flow_check.proofs.Accepting.{accepted}

-- fewer phases than nodes, in each at most as many pushes as links were added, the sink farther each time, all of them the run's own steps, and a cut at the end
pub every_run : (H : List ℕ) (c p : List Float) (starts list : List ℕ) (n s t : ℕ) → accepts H c p starts list n s t ≡ true
    → FlowClaim (network H n s t) c (length H / 2) (max_flow (network H n s t) c)
every_run H c p starts list n s t A = flow_run (network H n s t) c (length H / 2) (accepted H c p starts list n s t A)
