-- A whole run on a well-formed network keeps `FlowClaim`.
-- Invariant: the sink's level rose with each phase, so there were no more phases than its last level; where the levels do not reach the sink, no residual link leads out of the nodes with a level.
use mathlib.Core.Path.{◌≡◌, refl, sym, ap, ◌∙◌}
use Prim.Native.Nat.{ℕ, zero, suc, ◌≤◌, ◌<◌, ◌+◌}
use mathlib.Core.Bool.{Bool, true, false, not, false≢true, true≢false}
use mathlib.Core.Logic.{◌≢◌, inl, inr}
use mathlib.Core.List.{List, [], ◌∷◌}
use native.Mathlib.Omega.{arith}
use lib.Dec.{eqb}
use lib.ListN.{length}
use lib.Ieee.{Float, lt}
use Rattle.flow_theory.specs.Network.{Net, nodes, head, tail, left, residual}
use Rattle.flow_theory.specs.Levels.{unset, level_of, levels}
use Rattle.flow_theory.specs.Run.{phase, Phase, FlowRun, after_phase, at_end, run, start, max_flow}
use Rattle.numbers.specs.Real.{eps}
use Rattle.flow_theory.specs.Claim.{last_sink_level, Phases, PhaseTrail, in_cut, FlowClaim}
use borrow.Author.Tests.{eq-eqb, eqb-false, eqb-true, ne_eqb}
use Rattle.flow_theory.proofs.Links.{HasLevel, WellFormed, Caps}
use Rattle.flow_theory.proofs.Levels.{Levels, levels_ok, Pred}
use Rattle.flow_theory.proofs.Phases.{phased, rises}
use Rattle.flow_theory.proofs.Traces.{trail_on}

pub run_on : (N : Net) (k : ℕ) (s : FlowRun) → level_of (levels N s.cap) N.sink ≢ unset → run N (suc k) s ≡ run N k (after_phase N s (levels N s.cap))
unfolding run
run_on N k s h =
    let L = levels N s.cap in
    ap (λ (b : Bool). elim b as (λ x. FlowRun) [ true ↦ at_end s L | false ↦ run N k (after_phase N s L) ]) ((ne_eqb _ _) h)

pub run_end : (N : Net) (k : ℕ) (s : FlowRun) → level_of (levels N s.cap) N.sink ≡ unset → run N (suc k) s ≡ at_end s (levels N s.cap)
unfolding run
run_end N k s h =
    let L = levels N s.cap in
    ap (λ (b : Bool). elim b as (λ x. FlowRun) [ true ↦ at_end s L | false ↦ run N k (after_phase N s L) ]) ((eq-eqb _ _) h)

pub phases_length : (n : ℕ) (ls : List Phase) → Phases n ls → length ls ≤ last_sink_level ls
phases_length n [] h = omega arith
phases_length n (l ∷ ls) h = let r = phases_length n ls h.2 in let f = h.1 in omega arith

module _ (N : Net) (G : WellFormed N) where
  pub record Running (s : FlowRun) (k : ℕ) : Type 0 where
    pub caps : Caps N s.cap
    pub phases : Phases G.added s.phases
    pub low : last_sink_level s.phases < nodes N
    pub fuel : nodes N ≤ k + last_sink_level s.phases
    pub rise : (L : List ℕ) → Levels N s.cap L → HasLevel L N.sink → last_sink_level s.phases < level_of L N.sink

  not_b : (b : Bool) → not b ≡ true → b ≡ false
  not_b true e = absurd (false≢true e)
  not_b false e = refl

  finished : (c : List Float) (s : FlowRun) (k : ℕ) → Running s k → PhaseTrail N c s.phases s → (L : List ℕ) → L ≡ levels N s.cap → Levels N s.cap L → level_of L N.sink ≡ unset
      → FlowClaim N c G.added (at_end s L)
  unfolding at_end in_cut
  finished c s k I T L q B h = record {
    bounded = record {
      few_phases = let n = phases_length G.added s.phases I.phases in let l = I.low in omega arith;
      each_phase = I.phases;
      cut = record { source_in = ap not ((ne_eqb _ _) source_set); sink_out = ap not ((eq-eqb _ _) h); none_out = λ e l i o. pick e (not_b _ i) o (residual s.cap e) refl };
    };
    traced = record { last = s; trail = T; unreached = rw (← q) h; ends = rw (← q) };
  }
    where
      source_set : HasLevel L N.source
      source_set = let z = B.src in let few = G.few in omega arith

      pick : (e : ℕ) → eqb (level_of L (tail N e)) unset ≡ false → not (eqb (level_of L (head N e)) unset) ≡ false → (b : Bool) → residual s.cap e ≡ b → lt eps (left s.cap e) ≡ false
      pick e i o true l = absurd (true≢false (sym (ap not ((ne_eqb _ _) (B.clo e l ((eqb-false _ _) i)).0)) ∙ o))
      pick e i o false l = unfold residual in l

  pub onwards : (s : FlowRun) (k : ℕ) → Running s (suc k) → (L : List ℕ) → Levels N s.cap L → HasLevel L N.sink → Running (after_phase N s L) k
  unfolding after_phase
  onwards s k I L B h =
      let P = phased N G s.cap L B s refl I.caps in
      let r = I.rise L B h in
      let f = I.fuel in
      record {
        caps = P.caps;
        phases = (P.count, r, I.phases);
        low = B.bnd N.sink h;
        fuel = omega arith;
        rise = λ L' B' h'. rises N G s.cap L B (phase N s L) P L' B' h';
      }

  ran : (c : List Float) (k : ℕ) (s : FlowRun) → Running s k → PhaseTrail N c s.phases s → FlowClaim N c G.added (run N k s)
  ran c zero s I T = let f = I.fuel in let l = I.low in absurd (omega arith)
  ran c (suc k) s I T = pick (λ t J U. ran c k t J U) (eqb (level_of L N.sink) unset) refl
    where
      L : List ℕ
      L = levels N s.cap

      B : Levels N s.cap L
      B = levels_ok N G s.cap I.caps

      pick : ((t : FlowRun) → Running t k → PhaseTrail N c t.phases t → FlowClaim N c G.added (run N k t)) → (b : Bool) → eqb (level_of L N.sink) unset ≡ b
          → FlowClaim N c G.added (run N (suc k) s)
      pick again true t = rw (run_end N k s ((eqb-true _ _) t)) (finished c s (suc k) I T L refl B ((eqb-true _ _) t))
      pick again false f = rw (run_on N k s ((eqb-false _ _) f)) (again (after_phase N s L) (onwards s k I L B ((eqb-false _ _) f)) (trail_on N G c s I.caps B ((eqb-false _ _) f) T))

  pub run_starts : (c : List Float) → Caps N c → Running (start c) (nodes N)
  run_starts c C = record { caps = C; phases = tt; low = let i = G.source_in in omega arith; fuel = omega arith; rise = first }
    where
      first : (L : List ℕ) → Levels N c L → HasLevel L N.sink → 0 < level_of L N.sink
      first L B h = pick (B.pred N.sink h)
        where
          pick : Pred N c L N.sink → 0 < level_of L N.sink
          pick (inl p) = absurd (G.ends (sym p))
          pick (inr (e, l, q, t)) = omega arith

  -- every run on an accepted network
  pub claimed : (c : List Float) → Caps N c → FlowClaim N c G.added (max_flow N c)
  unfolding max_flow
  claimed c C = ran c (nodes N) (start c) (run_starts c C) refl
