-- What is claimed of every flow run (document 01, demand 3), in words of its definition.
use Rattle.std.specs.Prelude.{◌≡◌, ℕ, zero, suc, ◌≤◌, ◌<◌, Bool, true, false, not, ◌≢◌, List, [], ◌∷◌, length, eqb, Float}
use Rattle.std.specs.Float.Ieee.{lt, le}
use Rattle.numbers.specs.Real.{eps}
use Rattle.flow_theory.specs.Network.{Net, nodes, links, head, tail, left}
use Rattle.flow_theory.specs.Levels.{unset, level_of, levels}
use Rattle.flow_theory.specs.Augment.{Pushed, augment}
use Rattle.flow_theory.specs.Run.{PhaseState, push_counted, no_push, Phase, FlowRun, opening, phase, after_phase, at_end, start}

-- ---- how many phases and pushes

-- the sink's level in the last phase, and 0 before the first
abbrev pub last_sink_level : List Phase → ℕ
last_sink_level [] = 0
last_sink_level (p ∷ ps) = p.sink_level

-- each phase, the last first: at most n pushes, and the sink's level higher than in the phase before
abbrev pub Phases : ℕ → List Phase → Type 0
Phases n [] = Unit {0}
Phases n (p ∷ ps) = (p.pushes ≤ n) × (last_sink_level ps < p.sink_level) × Phases n ps

-- ---- phases and pushes are the run's own steps

-- what `augment` comes to from s on
abbrev pub push_at : Net → List ℕ → PhaseState → Pushed
push_at N L s = augment N s.cap L s.next

-- n pushes lead from s to t, each one path of `augment` that gave over 1e-12
abbrev pub PushTrail : Net → List ℕ → PhaseState → ℕ → PhaseState → Type 0
PushTrail N L s zero t = t ≡ s
PushTrail N L s (suc n) t = (b : PhaseState) × (le (push_at N L b).amount eps ≡ false) × (t ≡ push_counted b (push_at N L b)) × PushTrail N L s n b

-- n pushes lead from s to the phase's end e, where `augment` gave no more
abbrev pub PhasePushes : Net → List ℕ → PhaseState → ℕ → PhaseState → Type 0
PhasePushes N L s n e = (t : PhaseState) × PushTrail N L s n t × (le (push_at N L t).amount eps ≡ true) × (e ≡ no_push t (push_at N L t))

-- p led from s to t: levels were set over the capacities that s left, and reach the sink; the sink's level and the pushes are p's
pub record PhaseStep (N : Net) (p : Phase) (s t : FlowRun) : Type 0 where
  pub reached : level_of (levels N s.cap) N.sink ≢ unset
  pub level : p.sink_level ≡ level_of (levels N s.cap) N.sink
  pub pushes : PhasePushes N (levels N s.cap) (opening N s) p.pushes (phase N s (levels N s.cap))
  pub after : t ≡ after_phase N s (levels N s.cap)

-- the phases, the last first, lead to t from the start: capacities c, flow 0 and no phase
abbrev pub PhaseTrail : Net → List Float → List Phase → FlowRun → Type 0
PhaseTrail N c [] t = t ≡ start c
PhaseTrail N c (p ∷ ps) t = (s : FlowRun) × PhaseStep N p s t × PhaseTrail N c ps s

-- the phases of r lead from capacities c to its end, where the levels do not reach the sink
pub record Traced (N : Net) (c : List Float) (r : FlowRun) : Type 0 where
  pub last : FlowRun
  pub trail : PhaseTrail N c r.phases last
  pub unreached : level_of (levels N last.cap) N.sink ≡ unset
  pub ends : r ≡ at_end last (levels N last.cap)

-- ---- the claim

-- the cut at the end: the nodes with a level
unfoldable pub in_cut : FlowRun → ℕ → Bool
unfolding level_of unset
in_cut r v = not (eqb (level_of r.level v) unset)

-- it holds the source and not the sink, and no link out of it, reverses included, has over 1e-12 left
pub record Cut (N : Net) (r : FlowRun) : Type 0 where
  pub source_in : in_cut r N.source ≡ true
  pub sink_out : in_cut r N.sink ≡ false
  pub none_out : (e : ℕ) → e < links N → in_cut r (tail N e) ≡ true → in_cut r (head N e) ≡ false → lt eps (left r.cap e) ≡ false

-- at most V - 1 phases, at most E pushes in each, the sink's level higher in each than in the one before; and a cut at the end
pub record Bounded (N : Net) (added : ℕ) (r : FlowRun) : Type 0 where
  pub few_phases : length r.phases < nodes N
  pub each_phase : Phases added r.phases
  pub cut : Cut N r

-- what is claimed of a run from capacities c: its bounds, and that its phases and pushes are its own steps
pub record FlowClaim (N : Net) (c : List Float) (added : ℕ) (r : FlowRun) : Type 0 where
  pub bounded : Bounded N added r
  pub traced : Traced N c r
