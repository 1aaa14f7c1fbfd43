-- The parts of the check of refusal 16, and that of a run it is the definition's.
use mathlib.Core.Path.{◌≡◌, refl, sym, ap, ap₂, ◌∙◌}
use mathlib.Core.Logic.{◌⊎◌, inl, inr}
use Prim.Native.Nat.{ℕ, zero, suc, ◌+◌, ◌≤◌, ◌<◌}
use mathlib.Core.Bool.{Bool, true, false, not, ◌&&◌, ◌||◌, true≢false}
use mathlib.Core.List.{List, map}
use native.Mathlib.Omega.{arith}
use lib.Dec.{eqb}
use lib.ListN.{length, get_or, drop, length-map}
use lib.Ieee.{Float, nan, binary64, add, mul, lt}
use borrow.Author.Tests.{eq-eqb, ne_eqb, le-leb}
use Rattle.numbers.specs.Real.{nought, one, slack, sum, sum_from}
use Rattle.numbers.specs.Choice.{larger, apart}
use Rattle.numbers.specs.Lists.{every, all}
use Rattle.numbers.proofs.Sums.{sum_next, sum_end}
use Rattle.numbers.proofs.Bools.{and_second}
use Rattle.numbers.proofs.Alls.{all_at, all_of, every_at, every_of}
use Rattle.epsdelta_theory.specs.Jumps.{Jump, rates}
use Rattle.epsdelta_theory.proofs.RowReads.{jumps_rates}
use Rattle.chain_theory.specs.Columns.{ChainColumns, row_targets, row_rates}
use Rattle.transport_theory.specs.Refusal.{unequal}
use Rattle.distance_theory.specs.Pairs.{pair, pair_at}
use Rattle.distance_theory.specs.Couplings.{Metric, row_l, row_r, fitted, even}
use Rattle.distance_theory.proofs.Crossings.{map_at}
use Rattle.distance_store.proofs.Kept.{Ready, beside_rows}
use Rattle.distance_words.proofs.Even.{fitted_by, even_rows, even_when, even_pair, even_pairs, all_even}

-- ---- the sum

sum_from_lem : (l : List Float) → sum_from nought l ≡ sum l
unfolding sum
sum_from_lem l = refl

module _ (f : Float → Float) (qs : List Float) (x : Float) (j : ℕ) where
  pub fit_next : j < length qs → sum_from x (drop j (map f qs)) ≡ sum (map f qs) → sum_from (add binary64 x (f (get_or qs j nan))) (drop (j + 1) (map f qs)) ≡ sum (map f qs)
  fit_next h e =
      ap (λ (y : Float). sum_from (add binary64 x y) (drop (j + 1) (map f qs))) (sym (map_at f qs j nan nan h)) ∙ sum_next x (map f qs) j (let n = length-map qs f in omega arith) ∙ e

  pub fit_end : length qs ≤ j → sum_from x (drop j (map f qs)) ≡ sum (map f qs) → x ≡ sum (map f qs)
  fit_end h e = sum_end x (map f qs) j (let n = length-map qs f in omega arith) ∙ e

pub fit_start : (f : Float → Float) (qs : List Float) → sum_from nought (drop 0 (map f qs)) ≡ sum (map f qs)
fit_start f qs = sum_from_lem (map f qs)

-- ---- two rows

module _ (ps qs : List Float) where
  pub one_entry : (length ps ≡ 1) ⊎ ((length ps ≡ 1 → ⊥) × (length qs ≡ 1)) → true ≡ even_rows ps qs
  one_entry (inl h) = rw (eq-eqb (length ps) 1 h)
  one_entry (inr (g, h)) = rw (ne_eqb (length ps) 1 g, eq-eqb (length qs) 1 h)

  module _ (g : length ps ≡ 1 → ⊥) where
    pub several : (length qs ≡ 1 → ⊥) → (ta tb t y d : Float) → ta ≡ sum ps → tb ≡ sum qs → t ≡ sum (map (fitted_by ta tb) qs) → y ≡ larger ta one → d ≡ apart ta t → not (lt (mul binary64 slack y) d) ≡ even_rows ps qs
    unfolding unequal
    several h ta tb t y d ea eb et ey ed =
        ap₂ (λ (a b : Float). not (lt (mul binary64 slack a) b)) (ey ∙ ap (λ (a : Float). larger a one) ea) (ed ∙ ap₂ apart ea (et ∙ ap₂ (λ (a b : Float). sum (map (fitted_by a b) qs)) ea eb))
        ∙ rw (ne_eqb (length ps) 1 g, ne_eqb (length qs) 1 h)

-- ---- all pairs

module _ (n : ℕ) (lefts rights : List ℕ) (C D : ChainColumns) where
  module _ (a : n ≤ length lefts) where
    module _ (b : n ≤ length rights) where
      pub told : (r : Bool) → r ≡ every (even_pairs lefts rights C D) n → r ≡ all_even n lefts rights C D
      told r e = and_second _ _ _ (le-leb n (length lefts) a) (and_second _ _ _ (le-leb n (length rights) b) e)

-- ---- of a run

every_same : (t u : ℕ → Bool) (n : ℕ) → ((k : ℕ) → k < n → t k ≡ u k) → every t n ≡ every u n
unfolding every
every_same t u zero f = refl
every_same t u (suc n) f = ap₂ ◌&&◌ (f n (omega arith)) (every_same t u n (λ k h. f k (omega arith)))

every_all : {A : Type 0} (t : A → Bool) (l : List A) (d : A) → every (λ (k : ℕ). t (get_or l k d)) (length l) ≡ all t l
every_all t l d = pick (every (λ (k : ℕ). t (get_or l k d)) (length l)) refl (all t l) refl
  where
    pick : (b : Bool) → every (λ (k : ℕ). t (get_or l k d)) (length l) ≡ b → (c : Bool) → all t l ≡ c → b ≡ c
    pick true e true f = refl
    pick false e false f = refl
    pick true e false f = absurd (true≢false (sym (all_of t l d (every_at (λ (k : ℕ). t (get_or l k d)) (length l) e)) ∙ f))
    pick false e true f = absurd (true≢false (sym (every_of (λ (k : ℕ). t (get_or l k d)) (length l) (all_at t l d f)) ∙ e))

module _ {G : Metric} {lefts rights codes : List ℕ} {C D : ChainColumns} (Y : Ready G lefts rights codes C D) where
  fitted_as : (es fs : List Jump) → fitted es fs ≡ map (fitted_by (sum (rates es)) (sum (rates fs))) (rates fs)
  unfolding fitted
  fitted_as es fs = refl

  pair_as : (k : ℕ) → k < length G.found → even_pairs lefts rights C D k ≡ even G (pair_at G.found k)
  pair_as k h =
      let p = pair_at G.found k in
      let a = beside_rows C p.left (Y.left_reads k h) in let b = beside_rows D p.right (Y.right_reads k h) in
      let ra : row_rates C p.left ≡ rates (row_l G p) = sym (jumps_rates (row_targets C p.left) (row_rates C p.left) (sym a)) ∙ ap rates (Y.left_row k h) in
      let rb : row_rates D p.right ≡ rates (row_r G p) = sym (jumps_rates (row_targets D p.right) (row_rates D p.right) (sym b)) ∙ ap rates (Y.right_row k h) in
      ap₂ (even_pair C D) (Y.left_at k h) (Y.right_at k h)
      ∙ ap (λ (t : Bool). even_when t (even_rows (row_rates C p.left) (row_rates D p.right))) (sym (and_second _ _ _ (Y.left_reads k h) (sym (Y.right_reads k h))))
      ∙ ap₂ even_rows ra rb
      ∙ ap₂ (λ (t : Bool) (x : List Float). t || not (unequal (sum (rates (row_l G p))) (sum x)))
      (ap₂ (λ (m n : ℕ). eqb m 1 || eqb n 1) (length-map (row_l G p) (λ (j : Jump). j.rate)) (length-map (row_r G p) (λ (j : Jump). j.rate))) (sym (fitted_as (row_l G p) (row_r G p)))

  -- 16 comes up exactly where the definition says so
  pub all_even_is : length G.found ≤ length lefts → length G.found ≤ length rights → all_even (length G.found) lefts rights C D ≡ all (even G) G.found
  all_even_is a b =
      sym (told (length G.found) lefts rights C D a b (every (even_pairs lefts rights C D) (length G.found)) refl)
      ∙ every_same (even_pairs lefts rights C D) (λ (k : ℕ). even G (pair_at G.found k)) (length G.found) pair_as ∙ every_all (even G) G.found (pair 0 0)
