-- A run of pairs in lists is the definition's, where the lists hold the pairs of a metric.
use mathlib.Core.Path.{◌≡◌, refl, ap, ap₂, ◌∙◌}
use mathlib.Core.Logic.{◌⊎◌, inl, inr}
use Prim.Native.Nat.{ℕ, suc, ◌+◌, ◌≤◌, ◌<◌, min}
use mathlib.Core.Bool.{Bool, true, false, not, ◌&&◌}
use mathlib.Core.List.{List, [], ◌∷◌, ◌++◌}
use native.Mathlib.Omega.{arith}
use lib.Dec.{ltb}
use lib.ListN.{length, get_or, take, drop, replicate, length-append, get_or-append}
use lib.Seq.{take_at, length-take-le}
use lib.Ieee.{Float, nan, inf, binary64, sub, mul, lt}
use borrow.Author.Tests.{le-leb}
use Rattle.numbers.specs.Real.{nought, one, eps, tenth}
use Rattle.numbers.specs.Lists.{over, all}
use Rattle.numbers.proofs.Bools.{lt_or_ge}
use Rattle.chain_theory.specs.Columns.{ChainColumns}
use Rattle.transport_theory.specs.Transport.{keep}
use Rattle.distance_theory.specs.Pairs.{Pair, most}
use Rattle.distance_theory.specs.Couplings.{Metric, room, even}
use Rattle.distance_theory.specs.Rounds.{many, solve, tolerance}
use Rattle.distance_theory.specs.Contributions.{contribution, contributions, rank_into, listed}
use Rattle.distance_theory.specs.declared.MetricOptions.{MetricOptions}
use Rattle.distance_theory.specs.declared.PairContribution.{PairContribution}
use Rattle.distance_theory.proofs.Lengths.{occupancy_wide}
use Rattle.distance_theory.proofs.Store.{Whole}
use Rattle.distance_words.proofs.Valuing.{Occupied, visited}
use Rattle.distance_values.proofs.Uses.{InStore, visited_is}
use Rattle.distance_words.proofs.Store.{Filled, fill_from, laying_of, fill_if, fill}
use Rattle.distance_words.proofs.Store
use Rattle.distance_store.proofs.Kept.{Ready, Held, filled_held, unfilled}
use Rattle.distance_words.proofs.Costs.{costs, priced_if, pricing}
use Rattle.distance_words.proofs.Costs
use Rattle.distance_costs.proofs.Pricing.{costs_length}
use Rattle.distance_even.proofs.Evens.{all_even_is}
use Rattle.distance_words.proofs.Iterating.{Task, task, Iterated, iterate_from}
use Rattle.distance_rounds.proofs.Rounded.{Serves, Solves, in_store}
use Rattle.distance_rounds.proofs.Started.{solved}
use Rattle.distance_words.proofs.Listing.{listing, listed_of}
use Rattle.std.specs.Prelude.{Result, Ok}
use Rattle.distance_words.specs.declared.told.Listed.{Listed}
use Rattle.distance_words.proofs.Found.{account_if, account_with, account_of}
use Rattle.distance_words.proofs.Solve.{Solving, uneven, aim_of, fine_of, solve_if, solve_from}
use Rattle.distance_words.specs.declared.told.Accounted.{Accounted}
use Rattle.distance_words.specs.Told.{Told, told_of, row}
use Rattle.distance_words.proofs.Found.{tell_if, tell_of, tell_from, found_from}
use Rattle.distance_run.proofs.Ways.{time_in, run_of, way_18, way_16, way_19, way_0}

-- ---- contributions look only at the pairs

contributions_front : (G : Metric) (s t : List Float) (k : ℕ) (ps : List Pair) → k + length ps ≤ length s → contributions G (s ++ t) k ps ≡ contributions G s k ps
unfolding contributions
contributions_front G s t k [] h = refl
contributions_front G s t k (p ∷ ps) h =
    ap₂ (λ (c : PairContribution) (cs : List PairContribution). keep (lt nought c.contribution) c cs)
    (ap (contribution G p) (get_or-append s t nan k (omega arith))) (contributions_front G s t (suc k) ps (omega arith))

pub listed_front : (G : Metric) (o : MetricOptions) (s t : List Float) → length G.found ≤ length s → listed G o (s ++ t) ≡ listed G o s
unfolding listed
listed_front G o s t h = ap (λ (cs : List PairContribution). take o.top (rank_into [] cs)) (contributions_front G s t 0 G.found (omega arith))

-- ---- the couplings

module _ {G : Metric} {l r codes : List ℕ} {C D : ChainColumns} (Y : Ready G l r codes C D) (W : Whole G) (fit : length G.found ≤ most) (il : length G.found ≤ length l) (ir : length G.found ≤ length r)
    (u w : List Float) (γ : Float) (gg : γ ≡ G.gamma) (o : MetricOptions) (costs-as : costs l r u w γ (length G.found) ≡ G.cost)
    (zs p : List ℕ) (m vs : List Float) (iz : length G.found ≤ length zs) (iv : length G.found ≤ length vs) where
  abbrev n : ℕ
  n = length G.found

  abbrev F : Filled
  F = fill_from (laying_of l r codes C D) n 0 0 zs zs p m

  abbrev cost : List Float
  cost = (pricing n l r u w γ vs).cost

  abbrev T : Task
  T = task n l r codes C D cost γ F.starts (aim_of γ o) (fine_of γ o)

  abbrev I : Iterated
  I = iterate_from T o.max_rounds (inf false) 0 (replicate n nought) F.lengths F.places F.masses

  pub filled_as : fill n l r codes C D zs zs p m ≡ F
  filled_as = ap (λ (b : Bool). fill_if b F zs zs p m) (let e : Store.counted n (length l) (length r) (length zs) (length zs) ≡ true = rw (le-leb n most fit, le-leb n (length l) il, le-leb n (length r) ir, le-leb n (length zs) iz) in e)

  cost_is : cost ≡ over (costs l r u w γ n) vs
  cost_is = ap (λ (b : Bool). (priced_if b (costs l r u w γ n) vs).cost) (let e : Costs.counted n (length l) (length r) (length vs) ≡ true = rw (le-leb n (length l) il, le-leb n (length r) ir, le-leb n (length vs) iv) in e)

  cost_front : take n cost ≡ G.cost
  cost_front = ap (take n) cost_is ∙ take_at (costs l r u w γ n) _ n (costs_length l r u w γ n) ∙ costs-as

  cost_long : n ≤ length cost
  cost_long = let a = ap length cost_is in let b = length-append (costs l r u w γ n) (drop (length (costs l r u w γ n)) vs) in let c = costs_length l r u w γ n in omega arith

  pub uneven_as : uneven o.max_rounds n l r C D ≡ (ltb 0 o.max_rounds && not (all (even G) G.found))
  uneven_as = ap (λ (b : Bool). ltb 0 o.max_rounds && not b) (all_even_is Y il ir)

  module _ (rp : room G G.found ≤ length p) (rm : room G G.found ≤ length m) where
    H : Held Y zs zs p m F
    H = filled_held Y zs zs p m iz iz rp rm

    serves : Serves G (tolerance o) T F.places F.masses
    serves = record {
      ready = Y;
      whole = W;
      count = refl;
      in_lefts = il;
      in_rights = ir;
      in_cost = cost_long;
      cost_is = cost_front;
      gamma_is = gg;
      aim_is = ap (λ (x : Float). mul binary64 (tolerance o) (sub binary64 one x)) gg;
      fine_is = ap (λ (x : Float). mul binary64 (mul binary64 (tolerance o) (sub binary64 one x)) tenth) gg;
      in_places = let a = H.places_size in omega arith;
      in_masses = let a = H.masses_size in omega arith;
    }

    pub all_laid : F.done ≡ true
    all_laid = H.done

    pub solution : Solves G F.starts F.places F.masses (solve G o) I
    solution = solved o Y T zs zs p m F H refl serves

    pub stays : InStore G (solve G o).policy F.starts I.lengths I.places I.masses n
    stays = in_store serves (solve G o) I solution

  -- ---- what is told

  module _ (ev : take n vs ≡ replicate n nought) (lists : (spent : List Float) → n ≤ length spent → listed_of n l r u w spent o ≡ listing true (listed G o spent)) (some : 0 < n) (long : most ≤ length (replicate most nought)) where
    abbrev odd : Bool
    odd = ltb 0 o.max_rounds && not (all (even G) G.found)

    abbrev S : Solving
    S = solve_from n l r codes C D cost γ o (take n vs) (fill n l r codes C D zs zs p m)

    pub solved_as : (d t : Bool) → F.done ≡ d → odd ≡ t → S ≡ solve_if d t F I (replicate n nought)
    solved_as d t hd ho =
        ap (solve_from n l r codes C D cost γ o (take n vs)) filled_as
        ∙ ap (λ (v : List Float). solve_from n l r codes C D cost γ o v F) ev
        ∙ ap₂ (λ (x y : Bool). solve_if x y F I (replicate n nought)) hd (uneven_as ∙ ho)

    abbrev R : Told
    R = told_of (run_of G γ o (min (length p) (length m)))

    found_18 : (length p < room G G.found) ⊎ (length m < room G G.found) → min (length p) (length m) < room G G.found → found_from n l r u w γ o S ≡ R
    found_18 s h = ap (found_from n l r u w γ o) (solved_as false odd (unfilled Y zs zs p m s) refl) ∙ way_18 G γ o (min (length p) (length m)) fit h

    module _ (rp : room G G.found ≤ length p) (rm : room G G.found ≤ length m) (rs : room G G.found ≤ min (length p) (length m)) where
      found_16 : odd ≡ true → found_from n l r u w γ o S ≡ R
      found_16 h = ap (found_from n l r u w γ o) (solved_as true true (all_laid rp rm) h) ∙ way_16 G γ o (min (length p) (length m)) fit rs h

      abbrev X : Occupied
      X = visited many F.starts I.lengths I.places I.masses γ (take n (replicate most nought)) n

      spends : (X.refusal ≡ 0) × (X.mass ≡ (time_in G γ o).mass) × (X.spent ≡ over (time_in G γ o).spent (take n (replicate most nought)))
      spends = visited_is (stays rp rm) (take n (replicate most nought)) γ fit (let z = length-take-le n (replicate most nought) (omega arith) in omega arith) refl

      spent_size : length (time_in G γ o).spent ≡ n
      spent_size = (occupancy_wide γ n (solve G o).policy).spent

      abbrev cs : List PairContribution
      cs = listed G o (time_in G γ o).spent

      listed_as : listed_of n l r u w X.spent o ≡ listing true cs
      listed_as =
          let z = spent_size in
          let a = length-append (time_in G γ o).spent (drop (length (time_in G γ o).spent) (take n (replicate most nought))) in
          ap (λ (x : List Float). listed_of n l r u w x o) spends.2
          ∙ lists (over (time_in G γ o).spent (take n (replicate most nought))) (omega arith)
          ∙ ap (listing true) (listed_front G o (time_in G γ o).spent _ (omega arith))

      abbrev account_as : Accounted
      account_as = record { mass = (time_in G γ o).mass; listed = record { count = length cs; records = row cs } }

      account_as_lem : account_of n l r u w F.starts I.lengths I.places I.masses γ o ≡ Ok account_as
      account_as_lem =
          ap (λ (i : ℕ). account_if i (account_with X.mass (listed_of n l r u w X.spent o))) spends.0
          ∙ ap₂ (λ (x : Float) (y : Result Listed ℕ). account_with x y) spends.1 listed_as

      value_as : get_or (I.values ++ drop n (replicate most nought)) 0 nan ≡ get_or (solve G o).value 0 nan
      value_as = get_or-append I.values _ nan 0 (let z = (solution rp rm).values_size in omega arith) ∙ ap (λ (v : List Float). get_or v 0 nan) (solution rp rm).values_are

      tells : odd ≡ false → found_from n l r u w γ o S ≡ tell_of n (get_or (solve G o).value 0 nan) γ (solve G o).residual (solve G o).rounds account_as
      tells h =
          ap (found_from n l r u w γ o) (solved_as true false (all_laid rp rm) h)
          ∙ ap₂ (λ (x : Float) (a : Result Accounted ℕ). tell_from n x γ I.residual I.rounds a) value_as account_as_lem
          ∙ ap₂ (λ (y : Float) (k : ℕ). tell_of n (get_or (solve G o).value 0 nan) γ y k account_as) (solution rp rm).residual_is (solution rp rm).rounds_are

      found_on : odd ≡ false → (b : Bool) → lt eps (time_in G γ o).mass ≡ b → found_from n l r u w γ o S ≡ R
      found_on h true e =
          tells h ∙ ap (λ (b : Bool). tell_if b n (get_or (solve G o).value 0 nan) γ (solve G o).residual (solve G o).rounds account_as) e ∙ way_19 G γ o (min (length p) (length m)) fit rs h e
      found_on h false e =
          tells h ∙ ap (λ (b : Bool). tell_if b n (get_or (solve G o).value 0 nan) γ (solve G o).residual (solve G o).rounds account_as) e ∙ way_0 G γ o (min (length p) (length m)) fit rs h e

      found_rest : (b : Bool) → odd ≡ b → found_from n l r u w γ o S ≡ R
      found_rest true e = found_16 e
      found_rest false e = found_on e (lt eps (time_in G γ o).mass) refl

    pub told_found : found_from n l r u w γ o S ≡ R
    told_found = pick (lt_or_ge (length p) (room G G.found)) (lt_or_ge (length m) (room G G.found))
      where
        pick : (length p < room G G.found) ⊎ (room G G.found ≤ length p) → (length m < room G G.found) ⊎ (room G G.found ≤ length m) → found_from n l r u w γ o S ≡ R
        pick (inl h) k = found_18 (inl h) (omega arith)
        pick (inr h) (inl k) = found_18 (inr k) (omega arith)
        pick (inr h) (inr k) = found_rest h k (omega arith) odd refl
