-- A phase on its way: one more push is one step of the definition's `blocking_flow`, and where nothing was pushed the phase is at its end.
use mathlib.Core.Path.{◌≡◌, refl, sym, ap, subst⁻¹, ◌∙◌}
use mathlib.Core.Logic.{inl, inr}
use mathlib.Core.Bool.{Bool, true, false, true≢false}
use Prim.Native.Nat.{ℕ, zero, suc, ◌+◌, ◌<◌}
use mathlib.Core.List.{List}
use native.Mathlib.Omega.{arith}
use native.Mathlib.Numerals.{add-one}
use native.Mathlib.Nat.{not-suc-le-zero}
use lib.Ieee.{Float, of_bits, binary64, le, add}
use Rattle.numbers.specs.Real.{eps}
use Rattle.flow_theory.specs.Network.{Net, links}
use Rattle.flow_theory.specs.Augment.{Pushed, augment}
use Rattle.flow_theory.specs.Run.{PhaseState, push_counted, no_push, blocking_flow, phase}
use Rattle.flow_theory.proofs.Links.{WellFormed}
use Rattle.flow_theory.proofs.Phases.{Phasing, Augmented, opened, augmented, gained, blocking_flow_more, blocking_flow_end}
use Rattle.flow_theory.proofs.RunRows.{PhaseReady, PhaseRan, phase_from}

-- the code's test of 1e-12
pub small_at : (x : Float) (b : Bool) → le x (of_bits binary64 4427486594234968593) ≡ b → le x eps ≡ b
unfolding of_bits
small_at x b h = h

abbrev pub phase_now : Float → List Float → List ℕ → ℕ → PhaseState
phase_now flow c nx count = record { total = flow; cap = c; next = nx; pushes = count }

-- a phase on its way to the definition's end
pub record PhaseGoing (N : Net) (c₀ : List Float) (L : List ℕ) (t : Float) (c : List Float) (nx : List ℕ) (flow : Float) (count : ℕ) : Type 0 where
  pub good : WellFormed N
  pub fuel : ℕ
  pub phasing : Phasing N good c₀ L (phase_now flow c nx count) fuel
  pub same : blocking_flow N L fuel (phase_now flow c nx count) ≡ phase_from N L t c₀

module _ {N : Net} {starts list : List ℕ} {c₀ : List Float} {L nx₀ : List ℕ} (D : PhaseReady N starts list c₀ L nx₀) {t : Float} where
  pub phase_begins : PhaseGoing N c₀ L t c₀ nx₀ t 0
  unfolding phase
  phase_begins = rw D.fresh (record {
    good = D.base.good;
    fuel = suc (links N);
    phasing = opened N D.base.good c₀ L D.levels t c₀ refl D.base.caps;
    same = refl;
  })

  module _ {c : List Float} {nx : List ℕ} {flow : Float} {count : ℕ} (I : PhaseGoing N c₀ L t c nx flow count) where
    spare : (k : ℕ) × Phasing N I.good c₀ L (phase_now flow c nx count) (suc k) × (blocking_flow N L (suc k) (phase_now flow c nx count) ≡ phase_from N L t c₀)
    spare = pick I.fuel I.phasing I.same
      where
        pick : (k : ℕ) → Phasing N I.good c₀ L (phase_now flow c nx count) k → blocking_flow N L k (phase_now flow c nx count) ≡ phase_from N L t c₀
            → (j : ℕ) × Phasing N I.good c₀ L (phase_now flow c nx count) (suc j) × (blocking_flow N L (suc j) (phase_now flow c nx count) ≡ phase_from N L t c₀)
        pick zero P e = absurd (not-suc-le-zero P.fuel)
        pick (suc k) P e = (k, P, e)

    module _ {x : Float} {d : List Float} {nx' : List ℕ} (e : ◌≡◌ {A = Pushed} (record { amount = x; cap = d; next = nx' }) (augment N c L nx)) where
      abbrev pushed : Pushed
      pushed = record { amount = x; cap = d; next = nx' }

      -- nothing was pushed: the phase is at its end
      pub phase_ends : le x (of_bits binary64 4427486594234968593) ≡ true → PhaseRan N L t c₀ (record { flow = flow; count = count }) d
      unfolding no_push
      phase_ends h =
          let (k, P, s) = spare in
          let q : no_push (phase_now flow c nx count) pushed ≡ phase_from N L t c₀
          = ap (no_push (phase_now flow c nx count)) e ∙ sym (blocking_flow_end N L k (phase_now flow c nx count) (ap (λ (r : Pushed). le r.amount eps) (sym e) ∙ small_at x true h)) ∙ s in
          record { flow_is = ap (λ (p : PhaseState). p.total) q; count_is = ap (λ (p : PhaseState). p.pushes) q; caps_is = ap (λ (p : PhaseState). p.cap) q }

      module _ (h : le x (of_bits binary64 4427486594234968593) ≡ false) where
        gains : (k : ℕ) → Phasing N I.good c₀ L (phase_now flow c nx count) (suc k) → Phasing N I.good c₀ L (push_counted (phase_now flow c nx count) pushed) k
        gains k P = pick (subst⁻¹ (Augmented N I.good c₀ L D.levels c) e (augmented N I.good c₀ L D.levels c nx P.caps P.size P.dead))
          where
            pick : Augmented N I.good c₀ L D.levels c pushed → Phasing N I.good c₀ L (push_counted (phase_now flow c nx count) pushed) k
            pick (inl (f, Q, size, dead)) = gained N I.good c₀ L D.levels k (phase_now flow c nx count) pushed P Q size dead
            pick (inr (f, q, dead, s)) = absurd (true≢false (sym f ∙ small_at x false h))

        pub phase_again : PhaseGoing N c₀ L t d nx' (add binary64 flow x) (count + 1)
        unfolding push_counted
        phase_again =
            let (k, P, s) = spare in
            rw (add-one count) (record {
              good = I.good;
              fuel = k;
              phasing = gains k P;
              same = ap (λ (r : Pushed). blocking_flow N L k (push_counted (phase_now flow c nx count) r)) e
                  ∙ sym (blocking_flow_more N L k (phase_now flow c nx count) (ap (λ (r : Pushed). le r.amount eps) (sym e) ∙ small_at x false h)) ∙ s;
            })

        pub push_room : count < links N
        unfolding push_counted
        push_room = let (k, P, s) = spare in let n = (gains k P).count in let two = I.good.pairs in omega arith
