-- Couplings: how long they are, and that each names pairs that were found, at every time. So the store of refusal 18 is always enough.
use mathlib.Core.Path.{◌≡◌, refl, sym, subst, subst⁻¹, ap, ap₂, ◌∙◌}
use Prim.Native.Nat.{ℕ, zero, suc, ◌≤◌, ◌<◌, ◌+◌, ◌*◌, ◌/◌, ◌%◌}
use mathlib.Core.Bool.{Bool, true, false}
use mathlib.Core.Logic.{◌≢◌, ◌⊎◌, inl, inr}
use mathlib.Core.List.{List, [], ◌∷◌, ◌++◌, map}
use native.Mathlib.Omega.{arith}
use native.Mathlib.Nat.{le_of_suc-le-suc, not-suc-le-zero, div-lt_iff_lt-mul, mod-lt, mul-le-mul}
use lib.ListN.{length, get_or, set, take, length-append, length-map, length-set, get_or-map}
use lib.Seq.{get_or-set_same, get_or-set_other, get_or-append_seam, append_snoc}
use lib.Ieee.{Float, nan, lt}
use Rattle.numbers.specs.Real.{eps, nought}
use Rattle.numbers.specs.Choice.{larger, apart}
use Rattle.numbers.specs.Lists.{In}
use Rattle.numbers.proofs.Bools.{eq_or_ne}
use Rattle.numbers.proofs.Members.{in_at}
use Rattle.epsdelta_theory.specs.Jumps.{Jump, targets, rates}
use Rattle.chain_theory.specs.Chain.{Chain}
use Rattle.transport_theory.specs.Transport.{Cell, transport, shipped, plan, keep, moved}
use Rattle.transport_theory.proofs.Networks.{columns_some}
use Rattle.transport_theory.proofs.Plans.{plan_length}
use Rattle.distance_theory.specs.Pairs.{Pair, pair, pair_at, place, most, cross, target_pair, pairs}
use Rattle.distance_theory.specs.Couplings.{Share, independent, Metric, metric, row_l, row_r, fitted, values_at, planned, point_mass, best_of, best_coupling, room}
use Rattle.distance_theory.specs.Rounds.{backup, Improvement, adopt, better, improve, improve_all, valued, Solution, begin, first_coupling, tolerance, solve}
use Rattle.distance_theory.specs.declared.MetricOptions.{MetricOptions}
use Rattle.distance_theory.proofs.Crossings.{map_at, map_all, cross_length, cross_in, cross_all}
use Rattle.distance_theory.proofs.Explore.{pairs_found}
use Rattle.distance_theory.proofs.Turns.{coupling_at}
use Rattle.distance_theory.proofs.Lengths.{after_round, iterate_keeps, solve_is}

-- ---- lengths

pub independent_length : (found : List Pair) (es fs : List Jump) → length (independent found es fs) ≡ length es * length fs
unfolding independent
independent_length found es fs = cross_length _ es fs

pub rates_length : (es : List Jump) → length (rates es) ≡ length es
rates_length es = length-map es (λ (j : Jump). j.rate)

pub fitted_length : (es fs : List Jump) → length (fitted es fs) ≡ length fs
unfolding fitted
fitted_length es fs = length-map (rates fs) _ ∙ rates_length fs

-- a plan has no more cells than the two sides multiplied
pub transport_length : (a b costs : List Float) → length (transport a b costs).plan ≤ length a * length b
unfolding transport
transport_length a b costs = plan_length (length b) (2 * (length a + length b)) (shipped a b costs).cap (length a * length b) 0

pub best_length : (found : List Pair) (v : List Float) (es fs : List Jump) (b : Bool) → length (best_of b found v es fs).coupling ≤ length es * length fs
unfolding best_of
best_length found v es fs true = let a = independent_length found es fs in omega arith
best_length found v es fs false =
    let t = transport (rates es) (fitted es fs) (values_at found v es fs) in
    let a = length-map t.plan (planned found es fs) in
    let b = transport_length (rates es) (fitted es fs) (values_at found v es fs) in
    let c : length (rates es) * length (fitted es fs) ≡ length es * length fs = ap₂ ◌*◌ (rates_length es) (fitted_length es fs) in
    omega arith

-- ---- where shares lead

-- each to one of n pairs
abbrev pub Placed : ℕ → List Share → Type 0
Placed n cs = (c : Share) → In c cs → c.at < n

-- every pair of ps is found
abbrev pub Known : List Pair → List Pair → Type 0
Known found ps = (p : Pair) → In p ps → place p found < length found

pub independent_placed : (found : List Pair) (es fs : List Jump) → Known found (cross target_pair es fs) → Placed (length found) (independent found es fs)
unfolding independent
independent_placed found es fs k = cross_all _ (λ (c : Share). c.at < length found) es fs (λ e y i j. k (target_pair e y) (cross_in target_pair e y es fs i j))

-- the cells of a plan are in range
abbrev pub Celled : ℕ → ℕ → List Cell → Type 0
Celled m n cs = (c : Cell) → In c cs → (c.row < m) × (c.column < n)

plan_celled : (m n f : ℕ) (c : List Float) (j k : ℕ) → k + j ≤ m * n → Celled m n (plan n f c j k)
unfolding plan keep
plan_celled m n f c zero k h = λ x i. absurd i
plan_celled m n f c (suc j) k h = pick (lt eps (moved f c k)) (plan_celled m n f c j (suc k) (omega arith))
  where
    here : (k / n < m) × (k % n < n)
    here = let z = columns_some m n k (omega arith) in let l : k < m * n = omega arith in ((div-lt_iff_lt-mul z).1 l, mod-lt k z)

    pick : (b : Bool) → Celled m n (plan n f c j (suc k)) → Celled m n (keep b (record { row = k / n; column = k % n; mass = moved f c k }) (plan n f c j (suc k)))
    pick true r x (inl e) = subst⁻¹ (λ (y : Cell). (y.row < m) × (y.column < n)) e here
    pick true r x (inr i) = r x i
    pick false r x i = r x i

pub transport_celled : (a b costs : List Float) → Celled (length a) (length b) (transport a b costs).plan
unfolding transport
transport_celled a b costs = plan_celled (length a) (length b) (2 * (length a + length b)) (shipped a b costs).cap (length a * length b) 0 (omega arith)

abbrev no_jump : Jump
no_jump = record { target = 0; rate = nan }

-- the pair of a cell is one that follows
cell_pair_lem : (es fs : List Jump) (i j : ℕ) → i < length es → j < length fs → In (pair (get_or (targets es) i 0) (get_or (targets fs) j 0)) (cross target_pair es fs)
cell_pair_lem es fs i j h k =
    rw (get_or-map (λ (x : Jump). x.target) es i no_jump, get_or-map (λ (x : Jump). x.target) fs j no_jump)
    (cross_in target_pair (get_or es i no_jump) (get_or fs j no_jump) es fs (in_at es i no_jump h) (in_at fs j no_jump k))

planned_placed : (found : List Pair) (es fs : List Jump) (cs : List Cell) → Known found (cross target_pair es fs) → Celled (length es) (length fs) cs → Placed (length found) (map (planned found es fs) cs)
planned_placed found es fs cs k s = map_all (planned found es fs) (λ (c : Share). c.at < length found) cs
    (λ c i. k (pair (get_or (targets es) c.row 0) (get_or (targets fs) c.column 0)) (cell_pair_lem es fs c.row c.column (s c i).0 (s c i).1))

pub best_placed : (found : List Pair) (v : List Float) (es fs : List Jump) (b : Bool) → Known found (cross target_pair es fs) → Placed (length found) (best_of b found v es fs).coupling
unfolding best_of
best_placed found v es fs true k = independent_placed found es fs k
best_placed found v es fs false k =
    let t = transport (rates es) (fitted es fs) (values_at found v es fs) in
    planned_placed found es fs t.plan k
    (subst (λ (m : ℕ). Celled m (length fs) t.plan) (rates_length es)
    (subst (λ (n : ℕ). Celled (length (rates es)) n t.plan) (fitted_length es fs) (transport_celled (rates es) (fitted es fs) (values_at found v es fs))))

-- ---- the couplings of all pairs, at every time

abbrev pub space : Metric → ℕ → ℕ
space G k = length (row_l G (pair_at G.found k)) * length (row_r G (pair_at G.found k))

-- the pairs that follow one that is found are found
abbrev pub Whole : Metric → Type 0
Whole G = (k : ℕ) → k < length G.found → Known G.found (cross target_pair (row_l G (pair_at G.found k)) (row_r G (pair_at G.found k)))

pub metric_whole : (A B : Chain) (γ : Float) → length (pairs A B) ≤ most → Whole (metric A B γ)
unfolding metric
metric_whole A B γ h k l p i = (pairs_found A B h k l p i).0

-- a coupling for each pair, no longer than the two rows multiplied, of pairs that were found
pub record Stored (G : Metric) (policy : List (List Share)) : Type 0 where
  pub size : length policy ≡ length G.found
  pub fits : (k : ℕ) → k < length G.found → length (coupling_at policy k) ≤ space G k
  pub placed : (k : ℕ) → k < length G.found → Placed (length G.found) (coupling_at policy k)

module _ (G : Metric) (W : Whole G) where
  first_at : (k : ℕ) → k < length G.found → coupling_at (map (first_coupling G) G.found) k ≡ first_coupling G (pair_at G.found k)
  first_at k h = map_at (first_coupling G) G.found k [] (pair 0 0) h

  pub first_stored : Stored G (begin G).policy
  unfolding begin
  first_stored = record {
    size = length-map G.found (first_coupling G);
    fits = λ k h. subst⁻¹ (λ (cs : List Share). length cs ≤ space G k) (first_at k h)
        (let a = independent_length G.found (row_l G (pair_at G.found k)) (row_r G (pair_at G.found k)) in omega arith);
    placed = λ k h. subst⁻¹ (Placed (length G.found)) (first_at k h)
        (independent_placed G.found (row_l G (pair_at G.found k)) (row_r G (pair_at G.found k)) (W k h));
  }

  store_set : (policy : List (List Share)) (k : ℕ) (cs : List Share) → k < length G.found → length cs ≤ space G k → Placed (length G.found) cs → Stored G policy → Stored G (set policy k cs)
  store_set policy k cs l f p s = record {
    size = length-set policy k cs ∙ s.size;
    fits = λ j h. pick_fits j h (eq_or_ne j k);
    placed = λ j h. pick_placed j h (eq_or_ne j k);
  }
    where
      here : (j : ℕ) → j ≡ k → get_or (set policy k cs) j [] ≡ cs
      here j e = subst⁻¹ (λ (x : ℕ). get_or (set policy k cs) x [] ≡ cs) e (get_or-set_same policy k cs [] (let z = s.size in omega arith))

      pick_fits : (j : ℕ) → j < length G.found → (j ≡ k) ⊎ (j ≢ k) → length (get_or (set policy k cs) j []) ≤ space G j
      pick_fits j h (inl e) = subst⁻¹ (λ (x : List Share). length x ≤ space G j) (here j e) (subst⁻¹ (λ (x : ℕ). length cs ≤ space G x) e f)
      pick_fits j h (inr d) = subst⁻¹ (λ (x : List Share). length x ≤ space G j) (get_or-set_other policy k j cs [] d) (s.fits j h)

      pick_placed : (j : ℕ) → j < length G.found → (j ≡ k) ⊎ (j ≢ k) → Placed (length G.found) (get_or (set policy k cs) j [])
      pick_placed j h (inl e) = subst⁻¹ (Placed (length G.found)) (here j e) p
      pick_placed j h (inr d) = subst⁻¹ (Placed (length G.found)) (get_or-set_other policy k j cs [] d) (s.placed j h)

  adopt_stored : (b : Bool) (k : ℕ) (cs : List Share) (policy : List (List Share)) (residual : Float) (improved : Bool) → k < length G.found → length cs ≤ space G k → Placed (length G.found) cs
      → Stored G policy → Stored G (adopt b k cs policy residual improved).policy
  adopt_stored true k cs policy residual improved l f p s = store_set policy k cs l f p s
  adopt_stored false k cs policy residual improved l f p s = s

  best_fits : (v : List Float) (k : ℕ) (p : Pair) → p ≡ pair_at G.found k → length (best_coupling G v p).coupling ≤ space G k
  unfolding best_coupling
  best_fits v k p e = subst⁻¹ (λ (q : Pair). length (best_coupling G v q).coupling ≤ space G k) e
      (best_length G.found v (row_l G (pair_at G.found k)) (row_r G (pair_at G.found k)) (point_mass (row_l G (pair_at G.found k)) (row_r G (pair_at G.found k))))

  best_leads : (v : List Float) (k : ℕ) (p : Pair) → p ≡ pair_at G.found k → k < length G.found → Placed (length G.found) (best_coupling G v p).coupling
  unfolding best_coupling
  best_leads v k p e h = subst⁻¹ (λ (q : Pair). Placed (length G.found) (best_coupling G v q).coupling) e
      (best_placed G.found v (row_l G (pair_at G.found k)) (row_r G (pair_at G.found k)) (point_mass (row_l G (pair_at G.found k)) (row_r G (pair_at G.found k))) (W k h))

  pub improve_is : (v : List Float) (k : ℕ) (p : Pair) (r : Improvement) → improve G v k p r
      ≡ adopt (better v (best_coupling G v p) (coupling_at r.policy k)) k (best_coupling G v p).coupling r.policy (larger r.residual (apart (backup G k (best_coupling G v p).value) (get_or v k nan))) r.improved
  unfolding improve
  improve_is v k p r = refl

  pub improve_stored : (v : List Float) (k : ℕ) (p : Pair) (r : Improvement) → k < length G.found → p ≡ pair_at G.found k → Stored G r.policy → Stored G (improve G v k p r).policy
  improve_stored v k p r h e s = subst⁻¹ (λ (x : Improvement). Stored G x.policy) (improve_is v k p r)
      (adopt_stored (better v (best_coupling G v p) (coupling_at r.policy k)) k (best_coupling G v p).coupling r.policy
      (larger r.residual (apart (backup G k (best_coupling G v p).value) (get_or v k nan))) r.improved h (best_fits v k p e) (best_leads v k p e h) s)

  -- ps are the pairs from k on
  abbrev From : ℕ → List Pair → Type 0
  From k [] = Unit {0}
  From k (p ∷ ps) = (k < length G.found) × (p ≡ pair_at G.found k) × From (suc k) ps

  improve_all_stored : (v : List Float) (k : ℕ) (ps : List Pair) (r : Improvement) → From k ps → Stored G r.policy → Stored G (improve_all G v k ps r).policy
  unfolding improve_all
  improve_all_stored v k [] r f s = s
  improve_all_stored v k (p ∷ ps) r f s = improve_all_stored v (suc k) ps (improve G v k p r) f.2 (improve_stored v k p r f.0 f.1 s)

  from_part : (k : ℕ) (pre ps : List Pair) → G.found ≡ pre ++ ps → length pre ≡ k → From k ps
  from_part k pre [] e l = tt
  from_part k pre (p ∷ ps) e l = (
    (let a = ap length e in let b = length-append pre (p ∷ ps) in omega arith),
    sym (ap (λ (x : List Pair). pair_at x k) e ∙ ap (λ (n : ℕ). pair_at (pre ++ (p ∷ ps)) n) (sym l) ∙ get_or-append_seam pre p ps (pair 0 0)),
    from_part (suc k) (pre ++ (p ∷ [])) ps (e ∙ sym (append_snoc pre p ps)) (let a = length-append pre (p ∷ []) in omega arith),
  )

  -- a round keeps it, and so do all
  pub round_stored : (tol : Float) (s : Solution) → Stored G s.policy → Stored G (after_round G tol s).policy
  round_stored tol s h =
      improve_all_stored (valued G tol s) 0 G.found (record { policy = s.policy; residual = nought; improved = false }) (from_part 0 [] G.found refl refl) h

  -- whatever the options, the couplings at the end fit the store
  pub solve_stored : (o : MetricOptions) → Stored G (solve G o).policy
  solve_stored o = subst⁻¹ (λ (s : Solution). Stored G s.policy) (solve_is G o)
      (iterate_keeps G (tolerance o) (λ (k : ℕ) (s : Solution). Stored G s.policy) (λ k s h. round_stored (tolerance o) s h) o.max_rounds (begin G) first_stored).1

-- ---- all couplings together

-- pair k's part of the store begins where those before it end, and ends within
pub room_take : (G : Metric) (ps : List Pair) (k : ℕ) → k < length ps → room G (take (suc k) ps) ≡ room G (take k ps) + length (row_l G (pair_at ps k)) * length (row_r G (pair_at ps k))
unfolding room
room_take G [] k h = absurd (not-suc-le-zero h)
room_take G (p ∷ ps) zero h = omega arith
room_take G (p ∷ ps) (suc k) h = let r = room_take G ps k (le_of_suc-le-suc h) in omega arith

pub room_within : (G : Metric) (ps : List Pair) (k : ℕ) → room G (take k ps) ≤ room G ps
unfolding room
room_within G ps zero = omega arith
room_within G [] (suc k) = omega arith
room_within G (p ∷ ps) (suc k) = let r = room_within G ps k in omega arith

-- rows of at most 32 entries: 1,024 places for each pair are always enough
pub room_most : (G : Metric) (ps : List Pair) → ((p : Pair) → In p ps → (length (row_l G p) ≤ 32) × (length (row_r G p) ≤ 32)) → room G ps ≤ 1024 * length ps
unfolding room
room_most G [] h = omega arith
room_most G (p ∷ ps) h =
    let r = room_most G ps (λ q i. h q (inr i)) in
    let m : length (row_l G p) * length (row_r G p) ≤ 32 * 32 = mul-le-mul (h p (inl refl)).0 (h p (inl refl)).1 in omega arith
