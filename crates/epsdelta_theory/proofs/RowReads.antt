-- Reading jumps from lists that hold them: where a row ends, how long it is, and what stands at a place of it.
use mathlib.Core.Path.{◌≡◌, refl, sym, ap, subst, ◌∙◌}
use Prim.Native.Nat.{ℕ, zero, suc, ◌+◌, ◌-◌, ◌≤◌, ◌<◌}
use mathlib.Core.List.{List, [], ◌∷◌}
use native.Mathlib.Omega.{arith}
use lib.Ieee.{Float, nan}
use lib.ListN.{length, get_or, take}
use lib.Seq.{slice, length-slice, get_or-drop, get_or-take}
use Rattle.numbers.specs.Lists.{In}
use Rattle.numbers.proofs.Members.{in_at}
use Rattle.bisim_core.specs.Data.{columns}
use Rattle.bisim_core.proofs.Models.{begins_up}
use Rattle.epsdelta_theory.specs.Jumps.{Jump, Jumps, jumps_of, targets, rates, no_row}
use Rattle.epsdelta_theory.proofs.Rows.{RowOf}
use Rattle.epsdelta_theory.proofs.RowsIn.{HoldsTo}

-- ---- targets beside rates

pub jumps_targets : (T : List ℕ) (P : List Float) → length T ≡ length P → targets (jumps_of T P) ≡ T
unfolding jumps_of
jumps_targets [] P e = refl
jumps_targets (t ∷ T) [] e = absurd (omega arith)
jumps_targets (t ∷ T) (p ∷ P) e = ap (λ (l : List ℕ). t ∷ l) (jumps_targets T P (omega arith))

pub jumps_rates : (T : List ℕ) (P : List Float) → length T ≡ length P → rates (jumps_of T P) ≡ P
unfolding jumps_of
jumps_rates [] [] e = refl
jumps_rates [] (p ∷ P) e = absurd (omega arith)
jumps_rates (t ∷ T) [] e = absurd (omega arith)
jumps_rates (t ∷ T) (p ∷ P) e = ap (λ (l : List Float). p ∷ l) (jumps_rates T P (omega arith))

pub jumps_length : (T : List ℕ) (P : List Float) → length T ≡ length P → length (jumps_of T P) ≡ length T
unfolding jumps_of
jumps_length [] P e = refl
jumps_length (t ∷ T) [] e = absurd (omega arith)
jumps_length (t ∷ T) (p ∷ P) e = ap suc (jumps_length T P (omega arith))

-- what is read past the last jump
abbrev pub no_jump : Jump
no_jump = record { target = 0; rate = nan }

pub jumps_at : (T : List ℕ) (P : List Float) (k : ℕ) → length T ≡ length P → get_or (jumps_of T P) k no_jump ≡ record { target = get_or T k 0; rate = get_or P k nan }
unfolding jumps_of
jumps_at [] [] k e = refl
jumps_at [] (p ∷ P) k e = absurd (omega arith)
jumps_at (t ∷ T) [] k e = absurd (omega arith)
jumps_at (t ∷ T) (p ∷ P) zero e = refl
jumps_at (t ∷ T) (p ∷ P) (suc k) e = jumps_at T P k (omega arith)

slice_at : {A : Type 0} (a b k : ℕ) (l : List A) (d : A) → a + k < b → get_or (slice a b l) k d ≡ get_or l (a + k) d
slice_at a b k l d h = get_or-drop a (take b l) k d ∙ get_or-take b l (a + k) d h

-- ---- starts that do not fall

pub starts_up : (S : List ℕ) (n : ℕ) → ((s : ℕ) → s < n → get_or S s 0 ≤ get_or S (s + 1) 0) → (s t : ℕ) → s ≤ t → t ≤ n → get_or S s 0 ≤ get_or S t 0
starts_up S n r s t h k = begins_up (columns [] S [] [] []) n r s t h k

-- ---- the row of state s

module _ {J : Jumps} {n : ℕ} {E : List Float} {S T : List ℕ} {P : List Float} (H : HoldsTo J n E S T P) (s : ℕ) (h : s < n) where
  -- it ends within the lists
  pub row_in : (get_or S (s + 1) 0 ≤ length T) × (get_or S (s + 1) 0 ≤ length P)
  row_in =
      let u = starts_up S n H.rise (s + 1) n (omega arith) (omega arith) in
      let t = H.targets_long in
      let p = H.probs_long in
      (omega arith, omega arith)

  same : length (slice (get_or S s 0) (get_or S (s + 1) 0) T) ≡ length (slice (get_or S s 0) (get_or S (s + 1) 0) P)
  same = length-slice (get_or S s 0) (get_or S (s + 1) 0) T row_in.0 ∙ sym (length-slice (get_or S s 0) (get_or S (s + 1) 0) P row_in.1)

  -- it has as many jumps as places
  pub row_length : length (get_or J s no_row).prob ≡ get_or S (s + 1) 0 - get_or S s 0
  row_length =
      ap (λ (l : List Jump). length l) (sym (H.prob s h))
      ∙ jumps_length (slice (get_or S s 0) (get_or S (s + 1) 0) T) (slice (get_or S s 0) (get_or S (s + 1) 0) P) same
      ∙ length-slice (get_or S s 0) (get_or S (s + 1) 0) T row_in.0

  -- jump k of it
  pub row_jump : (k : ℕ) → get_or S s 0 + k < get_or S (s + 1) 0 → get_or (get_or J s no_row).prob k no_jump ≡ record { target = get_or T (get_or S s 0 + k) 0; rate = get_or P (get_or S s 0 + k) nan }
  row_jump k i =
      ap (λ (l : List Jump). get_or l k no_jump) (sym (H.prob s h))
      ∙ jumps_at (slice (get_or S s 0) (get_or S (s + 1) 0) T) (slice (get_or S s 0) (get_or S (s + 1) 0) P) k same
      ∙ ap (λ (t : ℕ). record { target = t; rate = get_or (slice (get_or S s 0) (get_or S (s + 1) 0) P) k nan }) (slice_at (get_or S s 0) (get_or S (s + 1) 0) k T 0 i)
      ∙ ap (λ (p : Float). record { target = get_or T (get_or S s 0 + k) 0; rate = p }) (slice_at (get_or S s 0) (get_or S (s + 1) 0) k P nan i)

  module _ (N : ℕ) (R : RowOf N (get_or J s no_row)) where
    -- at most 31 jumps
    pub row_few : get_or S (s + 1) 0 - get_or S s 0 ≤ 31
    row_few = let l = row_length in let f = R.few in omega arith

    -- to states below the count
    pub row_target : (k : ℕ) → get_or S s 0 + k < get_or S (s + 1) 0 → get_or T (get_or S s 0 + k) 0 < N
    row_target k i =
        let L = slice (get_or S s 0) (get_or S (s + 1) 0) T in
        let z = length-slice (get_or S s 0) (get_or S (s + 1) 0) T row_in.0 in
        let e = ap targets (sym (H.prob s h)) ∙ jumps_targets L (slice (get_or S s 0) (get_or S (s + 1) 0) P) same in
        subst (λ (x : ℕ). x < N) (slice_at (get_or S s 0) (get_or S (s + 1) 0) k T 0 i) (R.inside (get_or L k 0) (subst (In (get_or L k 0)) (sym e) (in_at L k 0 (omega arith))))
