-- The run of two chains whose pairs `explore` has listed is the definition's (`run`).
use mathlib.Core.Path.{◌≡◌, refl, sym, subst, ap, ap₂, ◌∙◌}
use Prim.Native.Nat.{ℕ, zero, suc, ◌≤◌, ◌<◌, min}
use mathlib.Core.Bool.{Bool, true}
use mathlib.Core.List.{List, [], ◌∷◌, ◌++◌, map}
use native.Mathlib.Omega.{arith}
use native.Mathlib.Nat.{le_of_suc-le-suc, not-suc-le-zero}
use lib.ListN.{length, take, drop, replicate, length-map, length-replicate}
use lib.Seq.{take-length, length-take-le, take_all}
use lib.Ieee.{Float}
use borrow.Author.Tests.{le-ltb}
use Rattle.numbers.specs.Real.{nought}
use Rattle.numbers.specs.Lists.{over}
use Rattle.numbers.proofs.Members.{in_at}
use Rattle.chain_theory.specs.Chain.{Chain}
use Rattle.chain_theory.specs.Columns.{ChainColumns, chain_columns, chain_of}
use Rattle.chain_theory.specs.declared.ChainShape.{ChainShape}
use Rattle.chain_theory.proofs.Shaped.{Shaped}
use Rattle.distance_theory.specs.Pairs.{Pair, pair, pair_at, most, row_of, pairs}
use Rattle.distance_theory.specs.Couplings.{Metric, cost_of, metric}
use Rattle.distance_theory.specs.Contributions.{listed}
use Rattle.distance_theory.specs.Outcome.{run}
use Rattle.distance_theory.specs.declared.MetricOptions.{MetricOptions}
use Rattle.distance_theory.proofs.Discovery.{lefts, rights}
use Rattle.distance_theory.proofs.Explore.{pairs_some}
use Rattle.distance_theory.proofs.Index.{index, index_length}
use Rattle.distance_theory.proofs.Inside.{Of, pairs_of, chain_sound}
use Rattle.distance_theory.proofs.Store.{Whole, metric_whole}
use Rattle.distance_store.proofs.Kept.{Ready}
use Rattle.distance_words.proofs.Costs.{costs, pricing}
use Rattle.distance_costs.proofs.Pricing.{costs_are}
use Rattle.distance_rounds.proofs.Started.{bare, ready}
use Rattle.distance_words.proofs.Listing.{listing, listed_of}
use Rattle.distance_contributions.proofs.Records.{listed_of_lem}
use Rattle.std.specs.Prelude.{Err}
use Rattle.distance_words.specs.Told.{Told, told_of}
use Rattle.distance_words.proofs.Found.{found_from, found_if, found_of}
use Rattle.distance_words.proofs.Solve.{solve_of}
use Rattle.distance_run.proofs.Ways.{run_of, way_17}
use Rattle.distance_run.proofs.Whole.{told_found}

take_same : {A : Type 0} (x : A) (n k : ℕ) → n ≤ k → take n (replicate k x) ≡ replicate n x
take_same x zero k h = refl
take_same x (suc n) zero h = absurd (not-suc-le-zero h)
take_same x (suc n) (suc k) h = ap (λ r. x ∷ r) (take_same x n k (le_of_suc-le-suc h))

seen_size : (H : ChainShape) (C : ChainColumns) → H.states ≤ length C.observations → length (chain_of H C).observations ≡ H.states
unfolding chain_of
seen_size H C h = length-take-le H.states C.observations h

-- a list over none
none_left : (n : ℕ) → drop {A = ℕ} n [] ≡ []
none_left zero = refl
none_left (suc n) = refl

to_the_end : (a : List ℕ) → a ++ [] ≡ a
to_the_end [] = refl
to_the_end (x ∷ a) = ap (λ (r : List ℕ). x ∷ r) (to_the_end a)

over_none : (a : List ℕ) → over a [] ≡ a
over_none a = ap (λ (r : List ℕ). a ++ r) (none_left (length a)) ∙ to_the_end a

-- the columns, with as many observations as there are states
abbrev pub cut : ChainShape → ChainColumns → ChainColumns
cut H C = chain_columns C.offsets C.targets C.probabilities (take H.states C.observations)

module _ (HL : ChainShape) (CL : ChainColumns) (HR : ChainShape) (CR : ChainColumns) (γ : Float) (o : MetricOptions) where
  abbrev A : Chain
  A = chain_of HL CL

  abbrev B : Chain
  B = chain_of HR CR

  abbrev found : List Pair
  found = pairs A B

  abbrev G : Metric
  G = record { left = A; right = B; gamma = γ; found = found; cost = map (cost_of A B γ) found }

  run_as : (store : ℕ) → run_of G γ o store ≡ run A B γ o store
  unfolding run metric
  run_as store = refl

  -- over 4,096 pairs
  pub many_told : (store : ℕ) → most < length found → Err 17 ≡ told_of (run A B γ o store)
  many_told store h = way_17 G γ o store h ∙ ap told_of (run_as store)

  module _ (SL : Shaped HL CL) (SR : Shaped HR CR) (few : HR.states ≤ 2000)
      (slimL : (x : ℕ) → x < HL.states → length (row_of (chain_of HL CL) x) ≤ 32) (slimR : (x : ℕ) → x < HR.states → length (row_of (chain_of HR CR) x) ≤ 32)
      (seenL : HL.states ≤ length CL.observations) (seenR : HR.states ≤ length CR.observations) (asked : o.top ≤ 64) (fit : length found ≤ most) where
    abbrev l : List ℕ
    l = lefts found

    abbrev r : List ℕ
    r = rights found

    abbrev c : List ℕ
    c = index found

    bare_ready : Ready G l r (take (length found) c) (bare CL) (bare CR)
    unfolding metric
    bare_ready = ready HL CL HR CR γ SL SR few slimL slimR fit l [] r [] c [] (sym (over_none l)) (sym (over_none r)) (sym (over_none c))

    -- observations are not read
    Y : Ready G l r c (cut HL CL) (cut HR CR)
    Y =
        let z : Ready G l r c (bare CL) (bare CR) = subst (λ (x : List ℕ). Ready G l r x (bare CL) (bare CR)) (take_all (length found) c (let a = index_length found in omega arith)) bare_ready in
        record {
          left_at = z.left_at;
          right_at = z.right_at;
          look = z.look;
          codes_few = z.codes_few;
          left_reads = z.left_reads;
          right_reads = z.right_reads;
          left_row = z.left_row;
          right_row = z.right_row;
          left_few = z.left_few;
          right_few = z.right_few;
        }

    W : Whole G
    unfolding metric
    W = metric_whole A B γ fit

    il : length found ≤ length l
    il = let z = length-map found (λ (p : Pair). p.left) in omega arith

    ir : length found ≤ length r
    ir = let z = length-map found (λ (p : Pair). p.right) in omega arith

    low : (k : ℕ) → k < length found → Of HL.states HR.states (pair_at found k)
    low k h = pairs_of HL.states HR.states A B (chain_sound HL CL SL) (chain_sound HR CR SR) (pair_at found k) (in_at found k (pair 0 0) h)

    left_in : (k : ℕ) → k < length found → (pair_at found k).left < length A.observations
    left_in k h = let z = seen_size HL CL seenL in let b = (low k h).0 in omega arith

    right_in : (k : ℕ) → k < length found → (pair_at found k).right < length B.observations
    right_in k h = let z = seen_size HR CR seenR in let b = (low k h).1 in omega arith

    costs_as : costs l r A.observations B.observations γ (length found) ≡ map (cost_of A B γ) found
    costs_as = costs_are A B γ found l r A.observations B.observations (λ k h. (Y.left_at k h, Y.right_at k h, left_in k h, right_in k h)) (take-length A.observations) (take-length B.observations)

    lists : (spent : List Float) → length found ≤ length spent → listed_of (length found) l r A.observations B.observations spent o ≡ listing true (listed G o spent)
    lists spent h = ap₂ (λ (x y : List ℕ). listed_of (length found) x y A.observations B.observations spent o) (sym (to_the_end l)) (sym (to_the_end r)) ∙ listed_of_lem G o spent [] [] fit asked h left_in right_in

    blank_states : length found ≤ length {A = ℕ} (replicate most 0)
    blank_states = let z = length-replicate {A = ℕ} most 0 in omega arith

    blank_values : most ≤ length (replicate most nought)
    blank_values = let z = length-replicate most nought in omega arith

    abbrev told : List ℕ → List Float → Told
    told p m =
        found_from (length found) l r A.observations B.observations γ o
        (solve_of (length found) l r c (cut HL CL) (cut HR CR) (pricing (length found) l r A.observations B.observations γ (replicate most nought)).cost γ o (replicate most 0) (replicate most 0) p m (take (length found) (replicate most nought)))

    -- the run of the pairs in the lists
    pub found_told : (p : List ℕ) (m : List Float) → found_of (length found) l r c (cut HL CL) (cut HR CR) A.observations B.observations γ o p m ≡ told_of (run A B γ o (min (length p) (length m)))
    found_told p m =
        ap (λ (b : Bool). found_if b (told p m)) (le-ltb most (length found) fit)
        ∙ told_found Y W fit il ir A.observations B.observations γ refl o costs_as (replicate most 0) p m (replicate most nought) blank_states (let z = blank_values in omega arith)
        (take_same nought (length found) most fit) lists (pairs_some A B) blank_values
        ∙ ap told_of (run_as (min (length p) (length m)))
