-- `max_flow`: phases until the levels do not reach the sink. A phase is a setting of levels that reaches the sink, a push one path of `augment`.
use Rattle.std.specs.Prelude.{ℕ, zero, suc, ◌+◌, true, false, List, [], ◌∷◌, replicate, eqb, Float}
use Rattle.std.specs.Float.{binary64}
use Rattle.std.specs.Float.Ieee.{le, add}
use Rattle.numbers.specs.Real.{nought, eps}
use Rattle.flow_theory.specs.Network.{Net, nodes, links}
use Rattle.flow_theory.specs.Levels.{unset, level_of, levels}
use Rattle.flow_theory.specs.Augment.{Pushed, augment}

-- ---- a phase

-- the flow so far, the capacities left, the marks, and the pushes of the phase
pub record PhaseState : Type 0 where
  pub total : Float
  pub cap : List Float
  pub next : List ℕ
  pub pushes : ℕ

-- after an `augment` that pushed, and after one that did not
unfoldable pub push_counted : PhaseState → Pushed → PhaseState
unfolding add
push_counted s r = record { total = add binary64 s.total r.amount; cap = r.cap; next = r.next; pushes = suc s.pushes }

unfoldable pub no_push : PhaseState → Pushed → PhaseState
no_push s r = record { total = s.total; cap = r.cap; next = r.next; pushes = s.pushes }

-- `augment` until it pushes no more than 1e-12: at most k times
unfoldable pub blocking_flow : Net → List ℕ → ℕ → PhaseState → PhaseState
unfolding augment le push_counted no_push
blocking_flow N L zero s = s
blocking_flow N L (suc k) s = let r = augment N s.cap L s.next in elim (le r.amount eps) [ true ↦ no_push s r | false ↦ blocking_flow N L k (push_counted s r) ]

-- ---- the run

-- a phase that was: the sink's level in it, and its pushes
pub record Phase : Type 0 where
  pub sink_level : ℕ
  pub pushes : ℕ

-- a run so far or at its end: the flow, the capacities left, the levels set last, and the phases, the last first
pub record FlowRun : Type 0 where
  pub total : Float
  pub cap : List Float
  pub level : List ℕ
  pub phases : List Phase

-- where a phase begins: every mark is at its node's first link
abbrev pub opening : Net → FlowRun → PhaseState
opening N s = record { total = s.total; cap = s.cap; next = replicate (nodes N) 0; pushes = 0 }

-- a phase with levels L
unfoldable pub phase : Net → FlowRun → List ℕ → PhaseState
unfolding blocking_flow
phase N s L = blocking_flow N L (suc (links N)) (opening N s)

-- after a phase, and where the levels do not reach the sink
unfoldable pub after_phase : Net → FlowRun → List ℕ → FlowRun
unfolding phase level_of
after_phase N s L = let p = phase N s L in record { total = p.total; cap = p.cap; level = L; phases = record { sink_level = level_of L N.sink; pushes = p.pushes } ∷ s.phases }

unfoldable pub at_end : FlowRun → List ℕ → FlowRun
at_end s L = record { total = s.total; cap = s.cap; level = L; phases = s.phases }

-- at most k settings of levels
unfoldable pub run : Net → ℕ → FlowRun → FlowRun
unfolding levels after_phase at_end level_of unset
run N zero s = s
run N (suc k) s = let L = levels N s.cap in elim (eqb (level_of L N.sink) unset) [ true ↦ at_end s L | false ↦ run N k (after_phase N s L) ]

-- where a run begins
abbrev pub start : List Float → FlowRun
start c = record { total = nought; cap = c; level = []; phases = [] }

unfoldable pub max_flow : Net → List Float → FlowRun
unfolding run
max_flow N c = run N (nodes N) (start c)

-- the pushes of all phases
abbrev pub all_pushes : List Phase → ℕ
all_pushes [] = 0
all_pushes (p ∷ ps) = p.pushes + all_pushes ps
