-- What the checks that a model passed say in plain facts, and its edges tested in order for its rows.
use mathlib.Core.Path.{◌≡◌, refl, sym, ap, ◌∙◌}
use mathlib.Core.Bool.{Bool, true, false, ◌&&◌, ◌||◌, not}
use Prim.Native.Nat.{ℕ, ◌+◌, ◌≤◌, ◌<◌}
use native.Mathlib.Omega.{arith}
use lib.Dec.{ltb}
use lib.Ieee.{le, nan}
use lib.ListN.{length, get_or, take}
use borrow.Author.Tests.{ltb-true, ltb-false, leb-true, eqb-true, not-true, not-false}
use Rattle.numbers.specs.Lists.{span, every, all}
use Rattle.numbers.specs.Real.{is_zero, least_weight, greatest_joined}
use Rattle.numbers.proofs.Bools.{and_t, or_f}
use Rattle.numbers.proofs.Alls.{every_at}
use Rattle.numbers.proofs.Refuses.{check_hit, check_skip}
use Rattle.bisim_core.specs.Data.{Columns}
use Rattle.bisim_core.specs.Ids.{single}
use Rattle.bisim_core.specs.Edges.{crowded_in}
use Rattle.bisim_core.specs.declared.wlts.Shape.{Shape}
use Rattle.bisim_core.specs.Model.{begins, edge_at, row, rows, rises, large, starts_outside, thin, steady, sound, unfit, joined_weighs, refusal_with}
use Rattle.bisim_core.proofs.Models.{rows_every}

pub record Small (S : Shape) : Type 0 where
  pub states_in : S.states ≤ 2000
  pub edges_in : S.edges ≤ 4096
  pub labels_in : S.labels ≤ 256

pub small : (S : Shape) → large S ≡ false → Small S
small S e =
    let a = or_f _ _ e in
    let b = or_f _ _ a.1 in
    record { states_in = ltb-false 2000 S.states a.0; edges_in = ltb-false 4096 S.edges b.0; labels_in = ltb-false 256 S.labels b.1 }

pub record Roomy (S : Shape) (M : Columns) : Type 0 where
  pub offsets_in : S.states < length M.offsets
  pub edge_labels_in : S.edges ≤ length M.edge_labels
  pub edge_targets_in : S.edges ≤ length M.edge_targets
  pub edge_weights_in : S.edges ≤ length M.edge_weights
  pub labels_in : S.labels ≤ length M.labels

pub roomy : (S : Shape) (M : Columns) → thin S M ≡ false → Roomy S M
roomy S M e =
    let a = or_f _ _ e in
    let b = or_f _ _ a.1 in
    let d = or_f _ _ b.1 in
    let f = or_f _ _ d.1 in
    record { offsets_in = more (length M.offsets) S.states (ltb-false _ _ a.0); edge_labels_in = ltb-false _ _ b.0; edge_targets_in = ltb-false _ _ d.0; edge_weights_in = ltb-false _ _ f.0; labels_in = ltb-false _ _ f.1 }
  where
    more : (a b : ℕ) → b + 1 ≤ a → b < a
    more a b h = omega arith

pub record Steady (S : Shape) (M : Columns) : Type 0 where
  pub first : begins M 0 ≡ 0
  pub last : begins M S.states ≡ S.edges
  pub up : (s : ℕ) → s < S.states → begins M s ≤ begins M (s + 1)

pub steady_is : (S : Shape) (M : Columns) → steady S M ≡ true → Steady S M
steady_is S M e =
    let a = and_t _ _ e in
    let b = and_t _ _ a.1 in
    record { first = eqb-true _ _ a.0; last = eqb-true _ _ b.0; up = λ s h. leb-true _ _ (every_at _ _ b.1 s h) }

module _ {S : Shape} {M : Columns} (s : Steady S M) where
  pub sound_rows : every (λ i. sound S (edge_at M 0 i)) S.edges ≡ all (sound S) (rows M 0 S.states)
  sound_rows = sym (rows_every M (sound S) (λ i. sound S (edge_at M 0 i)) (λ s i. refl) S.states s.up s.first ∙ ap (every (λ i. sound S (edge_at M 0 i))) s.last)

  pub weigh_rows : every (λ i. le least_weight (get_or M.edge_weights i nan) && le (get_or M.edge_weights i nan) greatest_joined) S.edges ≡ all joined_weighs (rows M 0 S.states)
  weigh_rows = sym (rows_every M joined_weighs (λ i. joined_weighs (edge_at M 0 i)) (λ s i. refl) S.states s.up s.first ∙ ap (every (λ i. joined_weighs (edge_at M 0 i))) s.last)

-- ---- check 4 passed

pub record Fit (S : Shape) (M : Columns) : Type 0 where
  pub start : starts_outside S.initial S.states ≡ false
  pub room : Roomy S M
  pub order : Steady S M
  pub rising : every (λ s. rises (row M s)) S.states ≡ true
  pub sounds : all (sound S) (rows M 0 S.states) ≡ true
  pub singles : single (take S.labels M.labels) ≡ true

pub fit : (S : Shape) (M : Columns) → unfit S M ≡ false → Fit S M
fit S M e =
    let a = or_f _ _ e in
    let b = or_f _ _ a.1 in
    let d = or_f _ _ b.1 in
    let f = or_f _ _ d.1 in
    let g = or_f _ _ f.1 in
    record {
      start = a.0;
      room = roomy S M b.0;
      order = steady_is S M (not-false _ d.0);
      rising = not-false _ f.0;
      sounds = not-false _ g.0;
      singles = not-false _ g.1;
    }

module _ {S : Shape} {M : Columns} (F : Fit S M) where
  sound_at : (i : ℕ) → i < S.edges → sound S (edge_at M 0 i) ≡ true
  sound_at i h = every_at _ _ (sound_rows F.order ∙ F.sounds) i h

  abbrev low : ℕ → Bool
  low i = ltb (get_or M.edge_targets i 0) S.states

  abbrev known : ℕ → Bool
  known i = ltb (get_or M.edge_labels i 0) S.labels

  abbrev weighty : ℕ → Bool
  weighty i = not (is_zero (get_or M.edge_weights i nan))

  pub target_in : (i : ℕ) → i < S.edges → get_or M.edge_targets i 0 < S.states
  target_in i h = ltb-true _ _ (and_t (low i) (known i && weighty i) (sound_at i h)).0

  pub label_in : (i : ℕ) → i < S.edges → get_or M.edge_labels i 0 < S.labels
  label_in i h = ltb-true _ _ (and_t (known i) (weighty i) (and_t (low i) (known i && weighty i) (sound_at i h)).1).0

  pub weight_in : (i : ℕ) → i < S.edges → is_zero (get_or M.edge_weights i nan) ≡ false
  weight_in i h = not-true _ (and_t (known i) (weighty i) (and_t (low i) (known i && weighty i) (sound_at i h)).1).1

-- ---- the first check that fails

module _ (stray : Bool) (S : Shape) (M : Columns) where
  pub refused_3 : large S ≡ true → 3 ≡ refusal_with stray S M
  refused_3 e = sym (check_hit _ _ _ e)

  module _ (c3 : large S ≡ false) where
    pub refused_4 : (stray || unfit S M) ≡ true → 4 ≡ refusal_with stray S M
    refused_4 e = sym (check_skip _ _ _ _ c3 (check_hit _ _ _ e))

    module _ (c4 : (stray || unfit S M) ≡ false) where
      pub refused_5 : not (all joined_weighs (rows M 0 S.states)) ≡ true → 5 ≡ refusal_with stray S M
      refused_5 e = sym (check_skip _ _ _ _ c3 (check_skip _ _ _ _ c4 (check_hit _ _ _ e)))

      module _ (c5 : not (all joined_weighs (rows M 0 S.states)) ≡ false) where
        pub refused_6 : crowded_in (rows M 0 S.states) (span 0 S.states) ≡ true → 6 ≡ refusal_with stray S M
        refused_6 e = sym (check_skip _ _ _ _ c3 (check_skip _ _ _ _ c4 (check_skip _ _ _ _ c5 (check_hit _ _ _ e))))

        pub refused_none : crowded_in (rows M 0 S.states) (span 0 S.states) ≡ false → 0 ≡ refusal_with stray S M
        refused_none e = sym (check_skip _ _ _ _ c3 (check_skip _ _ _ _ c4 (check_skip _ _ _ _ c5 (check_skip _ _ _ _ e refl))))
