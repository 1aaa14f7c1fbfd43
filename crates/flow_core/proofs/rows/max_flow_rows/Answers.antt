-- `rows::max_flow_rows` meets its contract: what `accepts` says decides, an accepted network can be run (Accepting.runs), and every run keeps what is claimed (Theorem.every-run).
use mathlib.Core.Path.{◌≡◌, sym, ap, ◌∙◌}
use mathlib.Core.Bool.{Bool, true, false}
use mathlib.Core.List.{List}
use lib.Ieee.{Float}
use Rattle.std.specs.Prelude.{Ok, Err}
use Rattle.flow_theory.proofs.RunRows.{Ran}
use Rattle.flow_theory.specs.Run.{FlowRun}
use Rattle.flow_core.specs.Outcome.{ends, settled}
use Rattle.flow_core.specs.declared.Flow.{Flow}
use Rattle.flow_check.proofs.Accepting.{runs}
use Rattle.flow_core.proofs.Theorem.{every_run}
use Rattle.flow_core.proofs.rows.max_flow_rows.Goals as goal

-- a run's report as an answer
told_is : (r : FlowRun) (f : Flow) (c d : List Float) → Ran r f.flow f.phases f.pushes d → ends (Ok f) d ≡ settled true r c
told_is r f c d R = rw (← R.flow_is, ← R.phases_is, ← R.pushes_is, ← R.caps_is)

-- a refusal, which keeps the capacities
refused_is : (b : Bool) (r : FlowRun) (c : List Float) → b ≡ false → ends (Err 15) c ≡ settled b r c
refused_is b r c e = ap (λ (x : Bool). settled x r c) (sym e)

pub run-requires : goal.run-requires
run-requires c = runs _ _ c.args.course.now.net.costs.now _ _ _ _ _ (sym c.accepts.ensures ∙ c.if-not-accepts.false)

pub returns : goal.returns
returns c = record { caps_after = rw (sym c.accepts.ensures ∙ c.if-not-accepts.false) (told_is _ c.run.result c.args.caps.now _ c.run.ensures); claimed = every_run _ _ _ _ _ _ _ _ }

pub returns-then-not-accepts : goal.returns-then-not-accepts
returns-then-not-accepts c = record { caps_after = refused_is _ _ c.args.caps.now (sym c.accepts.ensures ∙ c.if-not-accepts.true); claimed = every_run _ _ _ _ _ _ _ _ }
