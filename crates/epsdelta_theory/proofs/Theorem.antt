-- The theorem of every run of `epsdelta` (demand 3): what is not refused runs as `Sound` says.
-- An input that is not refused has accepted models, whose rows are bounded (Rows), and a ρ with which every exit rate passes the rate test with itself (Rates). Relation and strikes are as
-- in every run of sweeps (Runs), bounds and cuts as in every flow test of bounded rows (FlowTests).
use mathlib.Core.Path.{◌≡◌, subst, subst⁻¹, ◌∙◌}
use Prim.Native.Nat.{ℕ, ◌<◌, ◌+◌}
use mathlib.Core.Bool.{Bool, true, false, cond}
use mathlib.Core.List.{List}
use native.Mathlib.Omega.{arith}
use lib.Dec.{T}
use lib.ListN.{length, get_or}
use lib.Ieee.{Float, le}
use Rattle.numbers.proofs.Bools.{t_of}
use Rattle.numbers.proofs.Constants.{one_is, greatest_factor_is}
use Rattle.numbers.specs.Lists.{In}
use Rattle.bisim_core.specs.Data.{Columns}
use Rattle.bisim_core.specs.declared.wlts.Shape.{Shape}
use Rattle.bisim_core.specs.Model.{model}
use Rattle.flow_theory.specs.Claim.{Cut, FlowClaim}
use Rattle.epsdelta_theory.specs.Jumps.{Jumps, union, no_row, exit, prob}
use Rattle.epsdelta_theory.specs.Sweeps.{Strike}
use Rattle.epsdelta_theory.specs.FlowTest.{caps, test_links, test_network, test_run}
use Rattle.epsdelta_theory.specs.Epsdelta.{rates_close, Given, given, task, epsdelta}
use Rattle.epsdelta_theory.specs.Refusal.{epsdelta_refusal}
use Rattle.epsdelta_theory.specs.Claim.{failed_from, failed_to, states, Sound}
use Rattle.epsdelta_theory.proofs.Unrefused.{Unrefused, unrefused}
use Rattle.epsdelta_theory.proofs.Rates.{Summed, self_close}
use Rattle.epsdelta_theory.proofs.Rows.{RowOf, model_length, union_length, union_rows}
use Rattle.epsdelta_theory.proofs.FlowTests.{test_nodes_lem, test_claimed}
use Rattle.epsdelta_theory.proofs.Sweeps.{Justified}
use Rattle.epsdelta_theory.proofs.Runs.{run_trail, run_ended, run_symmetric, run_reflexive, run_standing, run_justified, run_struck, run_missing}

-- what the run asks of what it is given: bounded rows, and a rate test that holds of a state with itself
pub record Ready (G : Given) : Type 0 where
  pub rows : (s : ℕ) → s < states G → RowOf (states G) (get_or G.jumps s no_row)
  pub self_passes : (s : ℕ) → s < states G → (task G).rates_pass s s ≡ true

module _ (G : Given) (K : Ready G) where
  either : (b : Bool) (u v : ℕ) → u < states G → v < states G → cond b u v < states G
  either true u v p q = p
  either false u v p q = q

  claims : (R : List Bool) (s t : ℕ) → s < states G → t < states G → FlowClaim (test_network G.jumps R s t) (caps (test_links G.jumps R s t)) (length (test_links G.jumps R s t)) (test_run G.jumps R s t)
  claims R s t h k = test_claimed G.jumps R s t (unfold prob in (K.rows s h).in_range) (unfold prob in (K.rows t k).in_range) (unfold prob in (K.rows s h).few) (unfold prob in (K.rows t k).few)

  cuts : (k : Strike) → In k (epsdelta G).strikes → Cut (test_network G.jumps k.before (failed_from k) (failed_to k)) (test_run G.jumps k.before (failed_from k) (failed_to k))
  unfolding epsdelta
  cuts k i =
      let a : Justified (task G) k = run_justified (task G) k i in
      let lo : k.low < states G = let x = a.apart in let y = a.inside in omega arith in
      (claims k.before (failed_from k) (failed_to k) (either k.back k.high k.low a.inside lo) (either k.back k.low k.high lo a.inside)).bounded.cut

  pub run_sound : Sound G
  unfolding epsdelta
  run_sound = record {
    symmetric = run_symmetric (task G);
    reflexive = run_reflexive (task G) K.self_passes;
    standing = run_standing (task G);
    missing = run_missing (task G);
    strikes_failed = run_struck (task G);
    cut = cuts;
    nodes_counted = test_nodes_lem G.jumps;
    bounded = λ R s t h k. (claims R s t h k).bounded;
    traced = λ R s t h k. (claims R s t h k).traced;
    trail = run_trail (task G);
    ended = run_ended (task G);
  }

module _ (SL : Shape) (ML : Columns) (SR : Shape) (MR : Columns) (cl cr : List ℕ) (ε ρ : Float) (bytes : ℕ) where
  abbrev J : Jumps
  J = union (model SL ML) (model SR MR)

  -- the states of both models
  pub total : states (given SL ML SR MR cl cr ε ρ) ≡ SL.states + SR.states
  unfolding given
  total = union_length (model SL ML) (model SR MR) ∙ rw (model_length SL ML, model_length SR MR)

  module _ (A : Unrefused SL ML SR MR cl cr ε ρ bytes) where
    row_of : (s : ℕ) → s < length J → RowOf (length J) (get_or J s no_row)
    unfolding given
    row_of s h = subst⁻¹ (λ (m : ℕ). RowOf m (get_or J s no_row)) total (union_rows A.left A.right s (subst (λ (m : ℕ). s < m) total h))

    passes : (x : Float) → Summed x → rates_close x x ρ ≡ true
    passes x h = self_close x ρ (subst (λ (y : Float). T (le y ρ)) one_is (t_of A.factor_least)) (subst (λ (y : Float). T (le ρ y)) greatest_factor_is (t_of A.factor_most)) h

    -- an input that is not refused
    pub ready : Ready (given SL ML SR MR cl cr ε ρ)
    unfolding given exit
    ready = record { rows = row_of; self_passes = λ s h. passes (get_or J s no_row).exit (row_of s h).summed }

-- any two models handed in, their classes, ε and ρ, and a store of any length for the relation
pub epsdelta_sound : (SL : Shape) (ML : Columns) (SR : Shape) (MR : Columns) (cl cr : List ℕ) (ε ρ : Float) (bytes : ℕ)
    → epsdelta_refusal SL ML SR MR cl cr ε ρ bytes ≡ 0 → Sound (given SL ML SR MR cl cr ε ρ)
epsdelta_sound SL ML SR MR cl cr ε ρ bytes e = run_sound (given SL ML SR MR cl cr ε ρ) (ready SL ML SR MR cl cr ε ρ bytes (unrefused SL ML SR MR cl cr ε ρ bytes e))
