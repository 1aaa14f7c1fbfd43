-- What a flow test between two rows of jumps answers.
use Rattle.std.specs.Prelude.{ℕ, Bool, List, [], Result, Float}
use Rattle.epsdelta_theory.specs.Jumps.{jumps_of}
use Rattle.epsdelta_theory.specs.FlowTest.{run_between}
use Rattle.flow_links.specs.Fits.{fits}
use Rattle.flow_core.specs.declared.Flow.{Flow}
use Rattle.flow_core.specs.Outcome.{settled}

-- targets and rates of both rows, the states and the relation: the run of the flow test, or 15
abbrev pub flow_between : List ℕ → List Float → List ℕ → List Float → ℕ → List Bool → Result Flow ℕ
flow_between us vs ts ws n R = (settled (fits us vs ts ws n) (run_between n R (jumps_of us vs) (jumps_of ts ws)) []).answer
