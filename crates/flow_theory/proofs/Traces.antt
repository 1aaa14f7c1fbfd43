-- A phase is its own steps: the trail of its pushes grows by one with each push, and `blocking_flow` comes to the `augment` that gives no more before its fuel ends (Phases).
use mathlib.Core.Path.{◌≡◌, refl}
use Prim.Native.Nat.{ℕ, zero, suc}
use mathlib.Core.Logic.{◌≢◌, inl, inr}
use mathlib.Core.List.{List}
use native.Mathlib.Nat.{not-suc-le-zero}
use lib.Ieee.{Float}
use Rattle.flow_theory.specs.Network.{Net}
use Rattle.flow_theory.specs.Levels.{unset, level_of, levels}
use Rattle.flow_theory.specs.Run.{PhaseState, push_counted, no_push, blocking_flow, FlowRun, opening, phase, after_phase}
use Rattle.flow_theory.specs.Claim.{push_at, PushTrail, PhasePushes, PhaseTrail}
use Rattle.flow_theory.proofs.Links.{WellFormed, Caps}
use Rattle.flow_theory.proofs.Levels.{Levels}
use Rattle.flow_theory.proofs.Phases.{Phasing, Augmented, augmented, gained, opened, blocking_flow_more, blocking_flow_end}

module _ (N : Net) (G : WellFormed N) (c₀ : List Float) (L : List ℕ) (B : Levels N c₀ L) where
  pushing : (s₀ : PhaseState) (k : ℕ) (s : PhaseState) → Phasing N G c₀ L s k → PushTrail N L s₀ s.pushes s → PhasePushes N L s₀ (blocking_flow N L k s).pushes (blocking_flow N L k s)
  pushing s₀ zero s I T = absurd (not-suc-le-zero I.fuel)
  pushing s₀ (suc k) s I T = pick (λ t J U. pushing s₀ k t J U) (augmented N G c₀ L B s.cap s.next I.caps I.size I.dead)
    where
      pick : ((t : PhaseState) → Phasing N G c₀ L t k → PushTrail N L s₀ t.pushes t → PhasePushes N L s₀ (blocking_flow N L k t).pushes (blocking_flow N L k t))
          → Augmented N G c₀ L B s.cap (push_at N L s) → PhasePushes N L s₀ (blocking_flow N L (suc k) s).pushes (blocking_flow N L (suc k) s)
      pick again (inl (h, P, size, D)) = rw (blocking_flow_more N L k s h) (again (push_counted s (push_at N L s)) (gained N G c₀ L B k s (push_at N L s) I P size D) (unfold push_counted in (s, h, refl, T)))
      pick again (inr (h, q, D, S)) = rw (blocking_flow_end N L k s h) (unfold no_push in (s, T, h, refl))

  phase_pushes : (s : FlowRun) → s.cap ≡ c₀ → Caps N c₀ → PhasePushes N L (opening N s) (phase N s L).pushes (phase N s L)
  unfolding phase
  phase_pushes s q C = pushing (opening N s) _ (opening N s) (opened N G c₀ L B s.total s.cap q C) refl

-- one phase more
pub trail_on : (N : Net) (G : WellFormed N) (c : List Float) (s : FlowRun) → Caps N s.cap → Levels N s.cap (levels N s.cap) → level_of (levels N s.cap) N.sink ≢ unset
    → PhaseTrail N c s.phases s → PhaseTrail N c (after_phase N s (levels N s.cap)).phases (after_phase N s (levels N s.cap))
unfolding after_phase
trail_on N G c s C B h T = (s, record { reached = h; level = refl; pushes = phase_pushes N G s.cap (levels N s.cap) B s refl C; after = refl }, T)
