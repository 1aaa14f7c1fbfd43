-- A run on its way: a round with a phase is one step of the definition's `run`, and a round whose levels do not reach the sink is its end; the counts stay small.
use mathlib.Core.Path.{◌≡◌, refl, sym, ap, subst⁻¹, ◌∙◌}
use Prim.Native.Nat.{ℕ, zero, suc, ◌+◌, ◌*◌, ◌≤◌, ◌<◌}
use mathlib.Core.List.{List, [], ◌∷◌}
use native.Mathlib.Omega.{arith}
use lib.ListN.{length}
use Rattle.std.specs.Prelude.{Some, None}
use Rattle.flow_theory.specs.declared.AfterPhase.{AfterPhase}
use lib.Ieee.{Float, of_bits, binary64}
use Rattle.flow_theory.specs.Network.{Net, nodes}
use Rattle.flow_theory.specs.Levels.{level_of, levels}
use Rattle.flow_theory.specs.Run.{PhaseState, phase, Phase, FlowRun, after_phase, at_end, run, max_flow, all_pushes}
use Rattle.flow_theory.specs.Claim.{Phases}
use Rattle.flow_theory.proofs.Links.{WellFormed}
use Rattle.flow_theory.proofs.Levels.{levels_ok}
use Rattle.flow_theory.proofs.Runs.{Running, run_on, run_end, onwards, phases_length, run_starts}
use Rattle.flow_theory.proofs.RunRows.{Runnable, RoundRan, Ran}

-- a run on its way to the definition's end
pub record RunsOn (N : Net) (c₀ c : List Float) (flow : Float) (count pushes : ℕ) : Type 0 where
  pub good : WellFormed N
  pub fuel : ℕ
  pub level : List ℕ
  pub phases : List Phase
  pub phases_is : count ≡ length phases
  pub pushes_is : pushes ≡ all_pushes phases
  pub running : Running N good (record { total = flow; cap = c; level = level; phases = phases }) fuel
  pub same : run N fuel (record { total = flow; cap = c; level = level; phases = phases }) ≡ max_flow N c₀

pushes_few : (n : ℕ) (ls : List Phase) → n ≤ 1088 → Phases n ls → all_pushes ls ≤ 1088 * length ls
pushes_few n [] h L = omega arith
pushes_few n (l ∷ ls) h L = let r = pushes_few n ls h L.2 in let p = L.0 in omega arith

module _ {N : Net} {starts list : List ℕ} {c₀ : List Float} (R : Runnable N starts list c₀) where
  pub run_begins : RunsOn N c₀ c₀ (of_bits binary64 0) 0 0
  unfolding max_flow of_bits
  run_begins = record {
    good = R.good;
    fuel = nodes N;
    level = [];
    phases = [];
    phases_is = refl;
    pushes_is = refl;
    running = run_starts N R.good c₀ R.caps;
    same = refl;
  }

  module _ {c : List Float} {flow : Float} {count pushes : ℕ} (I : RunsOn N c₀ c flow count pushes) where
    abbrev state : FlowRun
    state = record { total = flow; cap = c; level = I.level; phases = I.phases }

    pub runnable : Runnable N starts list c
    runnable = record { good = I.good; laid = R.laid; caps = I.running.caps; sink_in = R.sink_in; small = R.small }

    spare : (k : ℕ) × Running N I.good state (suc k) × (run N (suc k) state ≡ max_flow N c₀)
    spare = pick I.fuel I.running I.same
      where
        pick : (k : ℕ) → Running N I.good state k → run N k state ≡ max_flow N c₀ → (j : ℕ) × Running N I.good state (suc j) × (run N (suc j) state ≡ max_flow N c₀)
        pick zero J e = let f = J.fuel in let l = J.low in absurd (omega arith)
        pick (suc k) J e = (k, J, e)

    pub run_ends : {d : List Float} → RoundRan N flow c None d → Ran (max_flow N c₀) flow count pushes d
    unfolding at_end
    run_ends Q =
        let (k, J, s) = spare in
        let e : at_end state (levels N c) ≡ max_flow N c₀ = sym (run_end N k state Q.0) ∙ s in
        record {
          flow_is = ap (λ (r : FlowRun). r.total) e;
          phases_is = I.phases_is ∙ ap (λ (r : FlowRun). length r.phases) e;
          pushes_is = I.pushes_is ∙ ap (λ (r : FlowRun). all_pushes r.phases) e;
          caps_is = Q.1 ∙ ap (λ (r : FlowRun). r.cap) e;
        }

    module _ {p : AfterPhase} {d : List Float} (Q : RoundRan N flow c (Some p) d) where
      passed : PhaseState
      passed = phase N state (levels N c)

      flow_is : p.flow ≡ passed.total
      unfolding phase passed
      flow_is = Q.1.flow_is

      count_is : p.count ≡ passed.pushes
      unfolding phase passed
      count_is = Q.1.count_is

      cap_is : d ≡ passed.cap
      unfolding phase passed
      cap_is = Q.1.caps_is

      lap : Phase
      lap = record { sink_level = level_of (levels N c) N.sink; pushes = p.count }

      next : FlowRun
      next = record { total = p.flow; cap = d; level = levels N c; phases = lap ∷ I.phases }

      next_is : next ≡ after_phase N state (levels N c)
      unfolding after_phase next lap passed
      next_is = rw (flow_is, cap_is, count_is)

      onward_runs : (k : ℕ) → Running N I.good state (suc k) → Running N I.good next k
      onward_runs k J = subst⁻¹ (λ (s : FlowRun). Running N I.good s k) next_is (onwards N I.good state k J (levels N c) (levels_ok N I.good c J.caps) Q.0)

      pub run_again : RunsOn N c₀ d p.flow (count + 1) (pushes + p.count)
      unfolding next lap
      run_again =
          let (k, J, s) = spare in
          record {
            good = I.good;
            fuel = k;
            level = levels N c;
            phases = lap ∷ I.phases;
            phases_is = let z = I.phases_is in omega arith;
            pushes_is = let z = I.pushes_is in omega arith;
            running = onward_runs k J;
            same = ap (run N k) next_is ∙ sym (run_on N k state Q.0) ∙ s;
          }

      -- the counts stay small
      pub counts_few : (count + 1 < nodes N) × (pushes + p.count ≤ 1088 * (count + 1))
      counts_few =
          let A = run_again in
          let l = phases_length A.good.added A.phases A.running.phases in
          let w = A.running.low in
          let z = A.phases_is in
          let q = A.pushes_is in
          let two = A.good.pairs in
          let s = R.small in
          let b = pushes_few A.good.added A.phases (omega arith) A.running.phases in
          (omega arith, omega arith)
