-- The ways that a run of the definition ends, in the order of its checks.
use mathlib.Core.Path.{◌≡◌, refl, sym, ap, ◌∙◌}
use Prim.Native.Nat.{ℕ, suc, ◌≤◌, ◌<◌}
use mathlib.Core.Bool.{Bool, true, false, not, ◌&&◌}
use lib.Dec.{ltb}
use lib.ListN.{length, get_or}
use lib.Ieee.{Float, nan, binary64, sub, div, lt}
use borrow.Author.Tests.{lt-ltb, le-ltb}
use Rattle.numbers.specs.Real.{one, eps}
use Rattle.numbers.specs.Refuse.{check}
use Rattle.numbers.specs.Lists.{all}
use Rattle.numbers.proofs.Refuses.{check_hit, check_skip}
use Rattle.chain_theory.specs.Chain.{Chain}
use Rattle.distance_theory.specs.Pairs.{most}
use Rattle.distance_theory.specs.Couplings.{Metric, metric, room, even}
use Rattle.distance_theory.specs.Rounds.{solve}
use Rattle.distance_theory.specs.Contributions.{Visits, occupancy, listed}
use Rattle.distance_theory.specs.Refusal.{run_refusal}
use Rattle.distance_theory.specs.Outcome.{Run, run}
use Rattle.distance_theory.specs.declared.MetricOptions.{MetricOptions}
use Rattle.distance_theory.specs.declared.Distance.{Distance}
use Rattle.std.specs.Prelude.{Err}
use Rattle.distance_words.specs.Told.{told_if, told_of}

-- the run of a metric
abbrev pub time_in : Metric → Float → MetricOptions → Visits
time_in G γ o = occupancy γ (length G.found) (solve G o).policy

abbrev pub answer_of : Metric → Float → MetricOptions → Distance
answer_of G γ o = record {
  value = get_or (solve G o).value 0 nan;
  error_bound = div binary64 (solve G o).residual (sub binary64 one γ);
  gamma = γ;
  pairs_explored = length G.found;
  contributions = length (listed G o (time_in G γ o).spent);
  rounds = (solve G o).rounds;
}

abbrev pub run_of : Metric → Float → MetricOptions → ℕ → Run
run_of G γ o store = record { refusal = run_refusal G o store (time_in G γ o).mass; distance = answer_of G γ o; listed = listed G o (time_in G γ o).spent }

pub run_of_lem : (A B : Chain) (γ : Float) (o : MetricOptions) (store : ℕ) → run A B γ o store ≡ run_of (metric A B γ) γ o store
unfolding run
run_of_lem A B γ o store = refl

module _ (G : Metric) (γ : Float) (o : MetricOptions) (store : ℕ) where
  abbrev R : Run
  R = run_of G γ o store

  refusal_as : R.refusal ≡ check 17 (ltb most (length G.found)) (check 18 (ltb store (room G G.found)) (check 16 (ltb 0 o.max_rounds && not (all (even G) G.found)) (check 19 (lt eps (time_in G γ o).mass) 0)))
  unfolding run_refusal
  refusal_as = refl

  ends_with : (r : ℕ) → R.refusal ≡ suc r → Err (suc r) ≡ told_of R
  ends_with r e = ap (λ (i : ℕ). told_if i R) (sym e)

  pub way_17 : most < length G.found → Err 17 ≡ told_of R
  way_17 h = ends_with 16 (refusal_as ∙ check_hit 17 _ _ (lt-ltb most (length G.found) h))

  module _ (a : length G.found ≤ most) where
    past_17 : (later r : ℕ) → later ≡ r → check 17 (ltb most (length G.found)) later ≡ r
    past_17 later r e = check_skip 17 _ later r (le-ltb most (length G.found) a) e

    pub way_18 : store < room G G.found → Err 18 ≡ told_of R
    way_18 h = ends_with 17 (refusal_as ∙ past_17 _ 18 (check_hit 18 _ _ (lt-ltb store (room G G.found) h)))

    module _ (b : room G G.found ≤ store) where
      past_18 : (later r : ℕ) → later ≡ r → check 18 (ltb store (room G G.found)) later ≡ r
      past_18 later r e = check_skip 18 _ later r (le-ltb store (room G G.found) b) e

      abbrev odd : Bool
      odd = ltb 0 o.max_rounds && not (all (even G) G.found)

      pub way_16 : odd ≡ true → Err 16 ≡ told_of R
      way_16 h = ends_with 15 (refusal_as ∙ past_17 _ 16 (past_18 _ 16 (check_hit 16 odd _ h)))

      module _ (c : odd ≡ false) where
        pub way_19 : lt eps (time_in G γ o).mass ≡ true → Err 19 ≡ told_of R
        way_19 h = ends_with 18 (refusal_as ∙ past_17 _ 19 (past_18 _ 19 (check_skip 16 odd _ 19 c (check_hit 19 _ 0 h))))

        pub way_0 : lt eps (time_in G γ o).mass ≡ false → told_if 0 R ≡ told_of R
        way_0 h = ap (λ (i : ℕ). told_if i R) (sym (refusal_as ∙ past_17 _ 0 (past_18 _ 0 (check_skip 16 odd _ 0 c (check_skip 19 _ 0 0 h refl)))))
