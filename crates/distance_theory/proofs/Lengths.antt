-- The loops of evaluation, improvement and occupancy: when each goes on and when it ends, and that a value stands for each pair at every time.
use mathlib.Core.Path.{◌≡◌, refl, sym, subst, subst⁻¹, ap, ◌∙◌}
use Prim.Native.Nat.{ℕ, zero, suc, ◌≤◌, ◌+◌}
use mathlib.Core.Bool.{Bool, true, false, true≢false}
use mathlib.Core.List.{List, [], ◌∷◌}
use native.Mathlib.Omega.{arith}
use lib.ListN.{length, get_or, set, replicate, length-set, length-replicate}
use lib.Ieee.{Float, nan, binary64, add, mul, lt, le}
use Rattle.numbers.specs.Real.{nought, eps, is_zero}
use Rattle.distance_theory.specs.Couplings.{Share, Metric, expected}
use Rattle.distance_theory.specs.Rounds.{Values, backup, update, sweep, swept, sweeps, many, evaluate, Solution, Round, again, last, judged, ended, after, valued, improved_from, round, iterate, begin, tolerance, solve}
use Rattle.distance_theory.specs.Contributions.{Visits, pour, Stay, stay, stay_all, onward, visits, depart, occupancy}
use Rattle.distance_theory.specs.declared.MetricOptions.{MetricOptions}

-- ---- evaluation

module _ (G : Metric) (policy : List (List Share)) (tol : Float) where
  pub sweeps_on : (k : ℕ) (v : List Float) → le (swept G policy v).delta tol ≡ false → sweeps G policy tol (suc k) v ≡ sweeps G policy tol k (swept G policy v).value
  unfolding sweeps
  sweeps_on k v h = ap (λ (b : Bool). elim b as (λ z. List Float) [ true ↦ (swept G policy v).value | false ↦ sweeps G policy tol k (swept G policy v).value ]) h

  pub sweeps_end : (k : ℕ) (v : List Float) → le (swept G policy v).delta tol ≡ true → sweeps G policy tol (suc k) v ≡ (swept G policy v).value
  unfolding sweeps
  sweeps_end k v h = ap (λ (b : Bool). elim b as (λ z. List Float) [ true ↦ (swept G policy v).value | false ↦ sweeps G policy tol k (swept G policy v).value ]) h

pub update_length : (G : Metric) (k : ℕ) (cs : List Share) (w : Values) → length (update G k cs w).value ≡ length w.value
unfolding update
update_length G k cs w = length-set w.value k (backup G k (expected w.value cs))

pub sweep_length : (G : Metric) (k : ℕ) (policy : List (List Share)) (w : Values) → length (sweep G k policy w).value ≡ length w.value
unfolding sweep
sweep_length G k [] w = refl
sweep_length G k (cs ∷ policy) w = sweep_length G (suc k) policy (update G k cs w) ∙ update_length G k cs w

pub sweeps_length : (G : Metric) (policy : List (List Share)) (tol : Float) (k : ℕ) (v : List Float) → length (sweeps G policy tol k v) ≡ length v
unfolding sweeps
sweeps_length G policy tol zero v = refl
sweeps_length G policy tol (suc k) v = pick (sweeps_length G policy tol k (swept G policy v).value) (le (swept G policy v).delta tol) refl
  where
    one : length (swept G policy v).value ≡ length v
    one = sweep_length G 0 policy (record { value = v; delta = nought })

    pick : length (sweeps G policy tol k (swept G policy v).value) ≡ length (swept G policy v).value → (b : Bool) → le (swept G policy v).delta tol ≡ b
        → length (sweeps G policy tol (suc k) v) ≡ length v
    pick r true e = ap length (sweeps_end G policy tol k v e) ∙ one
    pick r false e = ap length (sweeps_on G policy tol k v e) ∙ r ∙ one

pub evaluate_length : (G : Metric) (policy : List (List Share)) (tol : Float) (v : List Float) → length (evaluate G policy tol v) ≡ length v
unfolding evaluate
evaluate_length G policy tol v = sweeps_length G policy tol many v

-- ---- rounds

abbrev pub state : Round → Solution
state (again s) = s
state (last s) = s

-- what a round comes to
abbrev pub after_round : Metric → Float → Solution → Solution
after_round G tol s = after (valued G tol s) (improved_from G (valued G tol s) s.policy) s.rounds

abbrev pub is_last : Metric → Float → Solution → Bool
is_last G tol s = ended G tol (improved_from G (valued G tol s) s.policy)

module _ (G : Metric) (tol : Float) where
  pub round_is : (s : Solution) (b : Bool) → is_last G tol s ≡ b → round G tol s ≡ judged b (after_round G tol s)
  unfolding round
  round_is s b e = ap (λ (c : Bool). judged c (after_round G tol s)) e

  pub iterate_on : (k : ℕ) (s : Solution) → is_last G tol s ≡ false → iterate G tol (suc k) s ≡ iterate G tol k (after_round G tol s)
  unfolding iterate
  iterate_on k s e = ap (λ (x : Round). elim x as (λ z. Solution) [ again q ↦ iterate G tol k q | last q ↦ q ]) (round_is s false e)

  pub iterate_end : (k : ℕ) (s : Solution) → is_last G tol s ≡ true → iterate G tol (suc k) s ≡ after_round G tol s
  unfolding iterate
  iterate_end k s e = ap (λ (x : Round). elim x as (λ z. Solution) [ again q ↦ iterate G tol k q | last q ↦ q ]) (round_is s true e)

  -- what holds at the start and is kept by a round holds at the end
  pub iterate_keeps : (P : ℕ → Solution → Type 0) → ((k : ℕ) (s : Solution) → P (suc k) s → P k (after_round G tol s)) → (k : ℕ) (s : Solution) → P k s → (j : ℕ) × P j (iterate G tol k s)
  unfolding iterate
  iterate_keeps P f zero s h = (0, h)
  iterate_keeps P f (suc k) s h = pick (is_last G tol s) refl (iterate_keeps P f k (after_round G tol s) (f k s h))
    where
      pick : (b : Bool) → is_last G tol s ≡ b → (j : ℕ) × P j (iterate G tol k (after_round G tol s)) → (j : ℕ) × P j (iterate G tol (suc k) s)
      pick true e r = (k, subst⁻¹ (P k) (iterate_end k s e) (f k s h))
      pick false e (j, p) = (j, subst⁻¹ (P j) (iterate_on k s e) p)

-- n values, and at most m rounds at the end
abbrev Proceeds : ℕ → ℕ → ℕ → Solution → Type 0
Proceeds n m k s = (length s.value ≡ n) × (s.rounds + k ≤ m)

proceed : (G : Metric) (tol : Float) (n m k : ℕ) (s : Solution) → Proceeds n m (suc k) s → Proceeds n m k (after_round G tol s)
proceed G tol n m k s h = (evaluate_length G s.policy _ s.value ∙ h.0, (let a = h.1 in omega arith))

begins : (G : Metric) (m : ℕ) → Proceeds (length G.found) m m (begin G)
unfolding begin
begins G m = (length-replicate (length G.found) nought, omega arith)

pub solve_is : (G : Metric) (o : MetricOptions) → solve G o ≡ iterate G (tolerance o) o.max_rounds (begin G)
unfolding solve
solve_is G o = refl

proceeds : (G : Metric) (o : MetricOptions) → (j : ℕ) × Proceeds (length G.found) o.max_rounds j (solve G o)
proceeds G o =
    let n = length G.found in
    let m = o.max_rounds in
    subst⁻¹ (λ (s : Solution). (j : ℕ) × Proceeds n m j s) (solve_is G o) (iterate_keeps G (tolerance o) (Proceeds n m) (λ k s h. proceed G (tolerance o) n m k s h) m (begin G) (begins G m))

-- a value for each pair, and at most `max_rounds` rounds
pub solve_length : (G : Metric) (o : MetricOptions) → length (solve G o).value ≡ length G.found
solve_length G o = (proceeds G o).1.0

pub solve_rounds : (G : Metric) (o : MetricOptions) → (solve G o).rounds ≤ o.max_rounds
solve_rounds G o = let h = (proceeds G o).1.1 in omega arith

-- ---- occupancy

pub pour_length : (x : Float) (cs : List Share) (l : List Float) → length (pour x cs l) ≡ length l
unfolding pour
pour_length x [] l = refl
pour_length x (c ∷ cs) l = pour_length x cs (set l c.at (add binary64 (get_or l c.at nan) (mul binary64 x c.mass))) ∙ length-set l c.at _

pub record Sized (n : ℕ) (w : Stay) : Type 0 where
  pub spent : length w.spent ≡ n
  pub next : length w.next ≡ n

pub stay_sized : (n : ℕ) (b : Bool) (γ p : Float) (k : ℕ) (cs : List Share) (w : Stay) → Sized n w → Sized n (stay b γ p k cs w)
unfolding stay
stay_sized n true γ p k cs w s = s
stay_sized n false γ p k cs w s = record { spent = length-set w.spent k _ ∙ s.spent; next = pour_length (mul binary64 γ p) cs w.next ∙ s.next }

pub stay_all_sized : (n : ℕ) (γ : Float) (now : List Float) (k : ℕ) (policy : List (List Share)) (w : Stay) → Sized n w → Sized n (stay_all γ now k policy w)
unfolding stay_all
stay_all_sized n γ now k [] w s = s
stay_all_sized n γ now k (cs ∷ policy) w s =
    stay_all_sized n γ now (suc k) policy (stay (is_zero (get_or now k nan)) γ (get_or now k nan) k cs w) (stay_sized n (is_zero (get_or now k nan)) γ (get_or now k nan) k cs w s)

pub record Wide (n : ℕ) (w : Visits) : Type 0 where
  pub spent : length w.spent ≡ n
  pub now : length w.now ≡ n

pub onward_wide : (n : ℕ) (γ : Float) (policy : List (List Share)) (w : Visits) → Wide n w → Wide n (onward γ policy w)
unfolding onward
onward_wide n γ policy w s =
    let r = stay_all_sized n γ w.now 0 policy (record { spent = w.spent; next = replicate (length w.now) nought })
    (record { spent = s.spent; next = length-replicate (length w.now) nought ∙ s.now }) in
    record { spent = r.spent; now = r.next }

module _ (γ : Float) (policy : List (List Share)) where
  pub visits_on : (k : ℕ) (w : Visits) → lt eps w.mass ≡ true → visits γ policy (suc k) w ≡ visits γ policy k (onward γ policy w)
  unfolding visits
  visits_on k w h = ap (λ (b : Bool). elim b as (λ z. Visits) [ true ↦ visits γ policy k (onward γ policy w) | false ↦ w ]) h

  pub visits_end : (k : ℕ) (w : Visits) → lt eps w.mass ≡ false → visits γ policy k w ≡ w
  unfolding visits
  visits_end zero w h = refl
  visits_end (suc k) w h = ap (λ (b : Bool). elim b as (λ z. Visits) [ true ↦ visits γ policy k (onward γ policy w) | false ↦ w ]) h

  pub visits_wide : (n k : ℕ) (w : Visits) → Wide n w → Wide n (visits γ policy k w)
  unfolding visits
  visits_wide n zero w s = s
  visits_wide n (suc k) w s = pick (visits_wide n k (onward γ policy w) (onward_wide n γ policy w s)) (lt eps w.mass) refl
    where
      pick : Wide n (visits γ policy k (onward γ policy w)) → (b : Bool) → lt eps w.mass ≡ b → Wide n (visits γ policy (suc k) w)
      pick r true e = subst⁻¹ (Wide n) (visits_on k w e) r
      pick r false e = subst⁻¹ (Wide n) (visits_end (suc k) w e) s

  -- k rounds, whatever the mass
  pub onwards : ℕ → Visits → Visits
  onwards zero w = w
  onwards (suc k) w = onwards k (onward γ policy w)

  -- 19 says that all rounds were done and the mass is still above 1e-12; otherwise the loop ended by itself
  pub visits_all : (k : ℕ) (w : Visits) → lt eps (visits γ policy k w).mass ≡ true → visits γ policy k w ≡ onwards k w
  unfolding visits onwards
  visits_all zero w h = refl
  visits_all (suc k) w h = pick (λ g. visits_all k (onward γ policy w) g) (lt eps w.mass) refl
    where
      pick : (lt eps (visits γ policy k (onward γ policy w)).mass ≡ true → visits γ policy k (onward γ policy w) ≡ onwards k (onward γ policy w))
          → (b : Bool) → lt eps w.mass ≡ b → visits γ policy (suc k) w ≡ onwards (suc k) w
      pick r true e = visits_on k w e ∙ r (subst (λ (x : Visits). lt eps x.mass ≡ true) (visits_on k w e) h)
      pick r false e = absurd (true≢false (sym (subst (λ (x : Visits). lt eps x.mass ≡ true) (visits_end (suc k) w e) h) ∙ e))

pub depart_wide : (γ : Float) (n : ℕ) → Wide n (depart γ n)
depart_wide γ n = record { spent = length-replicate n nought; now = length-set (replicate n nought) 0 _ ∙ length-replicate n nought }

pub occupancy_wide : (γ : Float) (n : ℕ) (policy : List (List Share)) → Wide n (occupancy γ n policy)
unfolding occupancy
occupancy_wide γ n policy = visits_wide γ policy n many (depart γ n) (depart_wide γ n)
