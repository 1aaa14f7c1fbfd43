-- What is known of a model that passes its check: what every reader of a model may build on.
use mathlib.Core.Path.{◌≡◌, refl, sym, ap, ◌∙◌}
use mathlib.Core.Bool.{Bool, true, false, not, true≢false}
use Prim.Native.Nat.{ℕ, ◌+◌, ◌≤◌, ◌<◌}
use native.Mathlib.Omega.{arith}
use lib.Ieee.{le, nan}
use lib.ListN.{length, get_or, take}
use lib.Seq.{length-take-le, get_or-take}
use borrow.Author.Tests.{ltb-true, ltb-false, eqb-true, not-false}
use Rattle.numbers.specs.Lists.{span, all}
use Rattle.numbers.specs.Real.{is_zero, least_weight, greatest_joined}
use Rattle.numbers.specs.Search.{seek}
use Rattle.numbers.proofs.Bools.{and_t}
use Rattle.numbers.proofs.Alls.{every_at}
use Rattle.numbers.proofs.Refuses.{check_none}
use Rattle.bisim_core.specs.Data.{Columns}
use Rattle.bisim_core.specs.Ids.{distinct}
use Rattle.bisim_core.specs.Edges.{others, crowded_at, crowded_in}
use Rattle.bisim_core.specs.declared.ids.StateId.{StateId}
use Rattle.bisim_core.specs.declared.wlts.Shape.{Shape}
use Rattle.std.specs.Prelude.{Option, Some}
use Rattle.bisim_core.specs.Model.{begins, edge_at, row, rows, follows, rises, large, starts_outside, unfit, joined_weighs, model_refusal}
use Rattle.bisim_core.proofs.Models.{begins_up, row_is, crowded_at_lem, crowded_by}
use Rattle.bisim_core.proofs.RowChecks.{rise_at}
use Rattle.bisim_core.proofs.Fits.{Small, small, Fit, fit, weigh_rows, target_in, label_in, weight_in}

pub record Accepted (S : Shape) (M : Columns) : Type 0 where
  pub states_few : S.states ≤ 2000
  pub edges_few : S.edges ≤ 4096
  pub labels_few : S.labels ≤ 256
  pub offsets_long : S.states < length M.offsets
  pub edge_labels_long : S.edges ≤ length M.edge_labels
  pub edge_targets_long : S.edges ≤ length M.edge_targets
  pub edge_weights_long : S.edges ≤ length M.edge_weights
  pub labels_long : S.labels ≤ length M.labels
  pub start_in : (s : StateId) → S.initial ≡ Some s → s.0 < S.states
  pub begins_first : begins M 0 ≡ 0
  pub begins_last : begins M S.states ≡ S.edges
  pub begins_rise : (s : ℕ) → s < S.states → begins M s ≤ begins M (s + 1)
  pub target_low : (i : ℕ) → i < S.edges → get_or M.edge_targets i 0 < S.states
  pub label_low : (i : ℕ) → i < S.edges → get_or M.edge_labels i 0 < S.labels
  pub weight_not_zero : (i : ℕ) → i < S.edges → is_zero (get_or M.edge_weights i nan) ≡ false
  pub weight_least : (i : ℕ) → i < S.edges → le least_weight (get_or M.edge_weights i nan) ≡ true
  pub weight_greatest : (i : ℕ) → i < S.edges → le (get_or M.edge_weights i nan) greatest_joined ≡ true
  pub rising : (s i : ℕ) → s < S.states → begins M s ≤ i → i + 1 < begins M (s + 1) → follows (edge_at M s i) (edge_at M s (i + 1)) ≡ true
  pub row_rises : (s : ℕ) → s < S.states → rises (row M s) ≡ true
  pub labels_single : (i : ℕ) → i < S.labels → seek (get_or M.labels i 0) (take S.labels M.labels) ≡ i
  pub others_few : (s : ℕ) → s < S.states → length (distinct (others s (row M s))) ≤ 31

started_in : (initial : Option StateId) (n : ℕ) (s : StateId) → starts_outside initial n ≡ false → initial ≡ Some s → s.0 < n
started_in initial n s e f = ltb-true _ _ (not-false _ (ap (λ (i : Option StateId). starts_outside i n) (sym f) ∙ e))

module _ {S : Shape} {M : Columns} (F : Fit S M) where
  module _ (e : all joined_weighs (rows M 0 S.states) ≡ true) (i : ℕ) (h : i < S.edges) where
    weighs_at : (le least_weight (get_or M.edge_weights i nan) ≡ true) × (le (get_or M.edge_weights i nan) greatest_joined ≡ true)
    weighs_at = and_t (le least_weight (get_or M.edge_weights i nan)) (le (get_or M.edge_weights i nan) greatest_joined) (every_at _ _ (weigh_rows F.order ∙ e) i h)

  row_rises_at : (s : ℕ) → s < S.states → rises (row M s) ≡ true
  row_rises_at s h = every_at _ _ F.rising s h

  rising_at : (s i : ℕ) → s < S.states → begins M s ≤ i → i + 1 < begins M (s + 1) → follows (edge_at M s i) (edge_at M s (i + 1)) ≡ true
  rising_at s i h = rise_at M s (begins M (s + 1)) (begins M s) i (ap rises (row_is M s (begins M s) (begins M (s + 1)) refl refl) ∙ row_rises_at s h)

  single_at : (i : ℕ) → i < S.labels → seek (get_or M.labels i 0) (take S.labels M.labels) ≡ i
  single_at i h =
      let n = length-take-le S.labels M.labels F.room.labels_in in
      ap (λ (x : ℕ). seek x (take S.labels M.labels)) (sym (get_or-take S.labels M.labels i 0 h)) ∙ eqb-true _ _ (every_at _ _ F.singles i (omega arith))

few_at : (M : Columns) (n : ℕ) → crowded_in (rows M 0 n) (span 0 n) ≡ false → (s : ℕ) → s < n → length (distinct (others s (row M s))) ≤ 31
few_at M n e s h = ltb-false 31 _ (sym (crowded_at_lem M n s h) ∙ pick (crowded_at (rows M 0 n) s) refl)
  where
    pick : (b : Bool) → crowded_at (rows M 0 n) s ≡ b → b ≡ false
    pick true p = absurd (true≢false (sym (crowded_by (rows M 0 n) n s h p) ∙ e))
    pick false p = refl

pub accepted : (S : Shape) (M : Columns) → model_refusal S M ≡ 0 → Accepted S M
unfolding model_refusal
accepted S M e =
    let a = check_none 2 (large S) _ e in
    let b = check_none 3 (unfit S M) _ a.1 in
    let d = check_none 4 (not (all joined_weighs (rows M 0 S.states))) _ b.1 in
    let f = check_none 5 (crowded_in (rows M 0 S.states) (span 0 S.states)) 0 d.1 in
    known (small S a.0) (fit S M b.0) (not-false _ d.0) f.0
  where
    known : Small S → Fit S M → all joined_weighs (rows M 0 S.states) ≡ true → crowded_in (rows M 0 S.states) (span 0 S.states) ≡ false → Accepted S M
    known Z F w c = record {
      states_few = Z.states_in;
      edges_few = Z.edges_in;
      labels_few = Z.labels_in;
      offsets_long = F.room.offsets_in;
      edge_labels_long = F.room.edge_labels_in;
      edge_targets_long = F.room.edge_targets_in;
      edge_weights_long = F.room.edge_weights_in;
      labels_long = F.room.labels_in;
      start_in = λ s i. started_in S.initial S.states s F.start i;
      begins_first = F.order.first;
      begins_last = F.order.last;
      begins_rise = F.order.up;
      target_low = target_in F;
      label_low = label_in F;
      weight_not_zero = weight_in F;
      weight_least = λ i h. (weighs_at F w i h).0;
      weight_greatest = λ i h. (weighs_at F w i h).1;
      rising = rising_at F;
      row_rises = λ s h. row_rises_at F s h;
      labels_single = single_at F;
      others_few = few_at M S.states c;
    }

-- ---- offsets of an accepted model

module _ {S : Shape} {M : Columns} (A : Accepted S M) where
  pub begins_mono : (s t : ℕ) → s ≤ t → t ≤ S.states → begins M s ≤ begins M t
  begins_mono s t h k = begins_up M S.states A.begins_rise s t h k

  -- every edge of a row is an edge of the model
  pub begins_in : (s : ℕ) → s ≤ S.states → begins M s ≤ S.edges
  begins_in s h = let a = begins_mono s S.states h (omega arith) in let b = A.begins_last in omega arith
