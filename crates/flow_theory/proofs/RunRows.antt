-- Words of private contracts: phases and the run over rows.
use mathlib.Core.Path.{◌≡◌}
use mathlib.Core.Logic.{◌≢◌}
use Prim.Native.Nat.{ℕ, ◌≤◌, ◌<◌}
use mathlib.Core.List.{List, []}
use lib.ListN.{length, replicate}
use lib.Ieee.{Float}
use Rattle.std.specs.Prelude.{Option, Some, None}
use Rattle.flow_theory.specs.declared.AfterPhase.{AfterPhase}
use Rattle.flow_theory.specs.Network.{Net, nodes, links}
use Rattle.flow_theory.specs.Levels.{unset, level_of, levels}
use Rattle.flow_theory.specs.Run.{PhaseState, phase, FlowRun, all_pushes}
use Rattle.flow_theory.proofs.Links.{WellFormed, Caps}
use Rattle.flow_theory.proofs.Levels.{Levels}
use Rattle.flow_theory.proofs.LevelRows.{InRows}

-- a network that was accepted, with its node lists as rows, and capacities that a run may have left
pub record Runnable (N : Net) (starts list : List ℕ) (c : List Float) : Type 0 where
  pub good : WellFormed N
  pub laid : InRows N N.heads list starts N.source
  pub caps : Caps N c
  pub sink_in : N.sink < nodes N
  pub small : links N ≤ 2176

-- a phase may begin: its levels are set, and no link is marked
pub record PhaseReady (N : Net) (starts list : List ℕ) (c : List Float) (L nx : List ℕ) : Type 0 where
  pub base : Runnable N starts list c
  pub levels : Levels N c L
  pub fresh : nx ≡ replicate (nodes N) 0

-- the definition's phase from a flow t and capacities c
abbrev pub phase_from : Net → List ℕ → Float → List Float → PhaseState
phase_from N L t c = phase N (record { total = t; cap = c; level = []; phases = [] }) L

pub record PhaseRan (N : Net) (L : List ℕ) (t : Float) (c : List Float) (p : AfterPhase) (d : List Float) : Type 0 where
  pub flow_is : p.flow ≡ (phase_from N L t c).total
  pub count_is : p.count ≡ (phase_from N L t c).pushes
  pub caps_is : d ≡ (phase_from N L t c).cap

-- what a round leaves: a phase where the levels reach the sink, and nothing changed where they do not
abbrev pub RoundRan : Net → Float → List Float → Option AfterPhase → List Float → Type 0
RoundRan N t c (Some p) d = (level_of (levels N c) N.sink ≢ unset) × PhaseRan N (levels N c) t c p d
RoundRan N t c None d = (level_of (levels N c) N.sink ≡ unset) × (d ≡ c)

-- what is reported of a run, and the capacities that it leaves
pub record Ran (run : FlowRun) (flow : Float) (phases pushes : ℕ) (d : List Float) : Type 0 where
  pub flow_is : flow ≡ run.total
  pub phases_is : phases ≡ length run.phases
  pub pushes_is : pushes ≡ all_pushes run.phases
  pub caps_is : d ≡ run.cap
