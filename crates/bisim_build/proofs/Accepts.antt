-- What `build` makes passes the checks of a built model (`built_accepted`), and its rows are the edges of the transitions given (`read_back`).
use Rattle.std.specs.Prelude.{Option, Result, Ok}
use Rattle.bisim_core.specs.declared.ids.StateId.{StateId}
use mathlib.Core.Path.{◌≡◌, refl, sym, ap, ◌∙◌}
use mathlib.Core.Bool.{Bool, true, false, not}
use Prim.Native.Nat.{ℕ, zero, suc, ◌+◌, ◌≤◌, ◌<◌}
use mathlib.Core.List.{List, [], ◌∷◌, map}
use native.Mathlib.Omega.{arith}
use lib.Dec.{eqb, leb}
use lib.Ieee.{Float, nan}
use lib.ListN.{length, get_or, take, drop, length-append, length-map}
use lib.Seq.{slice, length-slice, get_or-take, get_or-drop, take-append_seam}
use borrow.Author.Tests.{lt-ltb, le-ltb, le-leb, eq-eqb}
use Rattle.numbers.specs.Lists.{span, over, every, all}
use Rattle.numbers.specs.Real.{is_zero}
use Rattle.numbers.specs.Search.{seek}
use Rattle.numbers.proofs.Alls.{every_of}
use Rattle.numbers.proofs.Refuses.{check_skip, none}
use Rattle.numbers.proofs.Spans.{span_length, span_at}
use Rattle.bisim_core.specs.Data.{Edge, Transitions, Columns}
use Rattle.bisim_core.specs.Ids.{single}
use Rattle.bisim_core.specs.Edges.{crowded_in}
use Rattle.build_theory.specs.Edges.{edges, below, offsets}
use Rattle.bisim_core.specs.Model.{begins, row, rows, large, thin, steady, rises, sound, unfit, joined_weighs, model_refusal}
use Rattle.bisim_core.specs.declared.wlts.Shape.{Shape}
use Rattle.bisim_core.proofs.Distinct.{single_distinct}
use Rattle.build_theory.specs.Checks.{labels_of, refusal}
use Rattle.build_theory.proofs.Ranks.{AllE, all_map, all_both, Small, Of}
use Rattle.build_theory.proofs.Weights.{Fair, joined_weighs_lem}
use Rattle.bisim_build.specs.Build.{short, Outcome, made, settled, build}
use Rattle.bisim_build.proofs.Backs.{below_all, below_le, below_mono, Ordered, strict_ordered, split_at, Holds, row_is, rows_all, all_part, strict_part, all_of, rises_of}
use Rattle.bisim_build.proofs.Made.{Passed, passes, InRange, sizes, start, strict, in_range, small, fair, not_zero, edges_few, uncrowded}
use Rattle.bisim_build.proofs.Stored.{column, over_at}

-- ---- tests of all

all_true : (t : Edge → Bool) (l : List Edge) → AllE (λ a. t a ≡ true) l → all t l ≡ true
unfolding all
all_true t [] h = refl
all_true t (a ∷ l) h = rw h.0 (all_true t l h.1)

-- ---- lengths

over_length : {A : Type 0} (new old : List A) → length new ≤ length (over new old)
over_length new old = let e = length-append new (drop (length new) old) in omega arith

below_zero : (l : List Edge) → below 0 l ≡ 0
unfolding below
below_zero [] = refl
below_zero (a ∷ l) = let e = below_zero l in rw (le-ltb a.source 0 (omega arith)) (omega arith)

-- ---- the model made

module _ (states : ℕ) (initial : Option StateId) (C : Transitions) (given : ℕ) (M : Columns) (P : Passed states initial C given) where
  abbrev D : List ℕ
  D = labels_of C given

  abbrev E : List Edge
  E = edges C given

  abbrev Inside : Edge → Type 0
  Inside = Of (InRange P)

  abbrev pub shape : Shape
  shape = record { states = states; edges = length E; labels = length D; initial = initial }

  abbrev pub after : Columns
  after = (made states initial C given M).memory

  ordered : Ordered E
  ordered = strict_ordered E (small P) (strict P)

  pub holds : Holds after E states
  holds = record {
    starts = λ s h.
        over_at (offsets states E) M.offsets s 0 (let e = length-map (span 0 (suc states)) (λ x. below x E) in let f = span_length 0 (suc states) in omega arith)
        ∙ span_at (λ x. below x E) 0 (suc states) s (omega arith) ∙ ap (λ (x : ℕ). below x E) (let z : 0 + s ≡ s = omega arith in z);
    at = λ s i d h e.
        same_edge s (get_or E i d)
        (over_at (map (λ (a : Edge). a.label) E) M.edge_labels i 0 (let l = length-map E (λ (a : Edge). a.label) in omega arith) ∙ column (λ (a : Edge). a.label) E i 0 d h)
        (over_at (map (λ (a : Edge). a.target) E) M.edge_targets i 0 (let l = length-map E (λ (a : Edge). a.target) in omega arith) ∙ column (λ (a : Edge). a.target) E i 0 d h)
        (over_at (map (λ (a : Edge). a.weight) E) M.edge_weights i nan (let l = length-map E (λ (a : Edge). a.weight) in omega arith) ∙ column (λ (a : Edge). a.weight) E i nan d h) e;
  }
    where
      same_edge : (s : ℕ) (a : Edge) {l t : ℕ} {w : Float} → l ≡ a.label → t ≡ a.target → w ≡ a.weight → a.source ≡ s
          → ◌≡◌ {A = Edge} (record { source = s; label = l; target = t; weight = w }) a
      same_edge s a {l} {t} {w} p q r e = edge_eq s l t w a.source a.label a.target a.weight (sym e) p q r
        where
          edge_eq : (s l t : ℕ) (w : Float) (s' l' t' : ℕ) (w' : Float) → s ≡ s' → l ≡ l' → t ≡ t' → w ≡ w'
              → ◌≡◌ {A = Edge} (record { source = s; label = l; target = t; weight = w }) (record { source = s'; label = l'; target = t'; weight = w' })
          edge_eq s l t w s' l' t' w' a b c d = cc

  sources_in : AllE (λ a. a.source < states) E
  sources_in = all_map Inside (λ a. a.source < states) (λ a h. h.0) E (in_range P)

  -- the rows read back are the edges
  pub rows_back : rows after 0 states ≡ E
  rows_back = rows_all after E states holds ordered sources_in

  -- ---- each check

  not_large : large shape ≡ false
  not_large = let (x, y, z) = sizes P in let e = edges_few P in none _ _ (le-ltb 2000 states x) (none _ _ (le-ltb 4096 (length E) (omega arith)) (le-ltb 256 (length D) z))

  not_thin : thin shape after ≡ false
  not_thin =
      let o = over_length (offsets states E) M.offsets in
      let oe = length-map (span 0 (suc states)) (λ x. below x E) in
      let os = span_length 0 (suc states) in
      let l = over_length (map (λ (a : Edge). a.label) E) M.edge_labels in
      let le' = length-map E (λ (a : Edge). a.label) in
      let t = over_length (map (λ (a : Edge). a.target) E) M.edge_targets in
      let te = length-map E (λ (a : Edge). a.target) in
      let w = over_length (map (λ (a : Edge). a.weight) E) M.edge_weights in
      let we = length-map E (λ (a : Edge). a.weight) in
      none _ _ (le-ltb (length after.offsets) (states + 1) (omega arith))
      (none _ _ (le-ltb (length after.edge_labels) (length E) (omega arith))
      (none _ _ (le-ltb (length after.edge_targets) (length E) (omega arith))
      (none _ _ (le-ltb (length after.edge_weights) (length E) (omega arith)) (le-ltb (length after.labels) (length D) (over_length D M.labels)))))

  nothing_below : below 0 E ≡ 0
  nothing_below = below_zero E

  is_steady : steady shape after ≡ true
  is_steady =
      let a = holds.starts 0 (omega arith) ∙ nothing_below in
      let b = holds.starts states (omega arith) ∙ below_all states E sources_in in
      rw (eq-eqb (begins after 0) 0 a, eq-eqb (begins after states) (length E) b)
      (every_of (λ s. leb (begins after s) (begins after (s + 1))) states
      (λ s h. le-leb (begins after s) (begins after (s + 1)) (let p = holds.starts s (omega arith) in let q = holds.starts (s + 1) (omega arith) in let m = below_mono s (s + 1) E (omega arith) in omega arith)))

  nil : Edge
  nil = record { source = 0; label = 0; target = 0; weight = nan }

  row_source : (s : ℕ) → AllE (λ a. a.source ≡ s) (slice (below s E) (below (s + 1) E) E)
  row_source s = all_of (λ a. a.source ≡ s) (slice (below s E) (below (s + 1) E) E) nil at
    where
      at : (i : ℕ) → i < length (slice (below s E) (below (s + 1) E) E) → (get_or (slice (below s E) (below (s + 1) E) E) i nil).source ≡ s
      at i h =
          let t = below_le (s + 1) E in
          let l = length-slice (below s E) (below (s + 1) E) E t in
          let e : get_or (slice (below s E) (below (s + 1) E) E) i nil ≡ get_or E (below s E + i) nil =
          get_or-drop (below s E) (take (below (s + 1) E) E) i nil ∙ get_or-take (below (s + 1) E) E (below s E + i) nil (omega arith) in
          let u = (split_at s E nil ordered (below s E + i) (omega arith)).1 (omega arith) in
          let w = (split_at (s + 1) E nil ordered (below s E + i) (omega arith)).0 (omega arith) in
          ap (λ (a : Edge). a.source) e ∙ between (get_or E (below s E + i) nil).source u w
        where
          between : (x : ℕ) → s ≤ x → x < s + 1 → x ≡ s
          between x h k = omega arith

  all_rise : every (λ s. rises (row after s)) states ≡ true
  all_rise = every_of (λ s. rises (row after s)) states
      (λ s h. ap rises (row_is after E states holds ordered s h)
      ∙ rises_of (slice (below s E) (below (s + 1) E) E) s (row_source s) (all_part Small (below s E) (below (s + 1) E) E (small P)) (strict_part (below s E) (below (s + 1) E) E (strict P)))

  all_sound : all (sound shape) (rows after 0 states) ≡ true
  all_sound = ap (all (sound shape)) rows_back
      ∙ all_true (sound shape) E (all_map (λ a. Inside a × (is_zero a.weight ≡ false)) (λ a. sound shape a ≡ true)
      (λ a h. rw (lt-ltb a.target states h.0.2, lt-ltb a.label (length D) h.0.1, h.1)) E (all_both Inside (λ a. is_zero a.weight ≡ false) E (in_range P) (not_zero P)))

  is_single : single (take (length D) after.labels) ≡ true
  is_single = ap single (take-append_seam D (drop (length D) M.labels))
      ∙ every_of (λ i. eqb (seek (get_or D i 0) D) i) (length D) (λ i h. eq-eqb (seek (get_or D i 0) D) i (single_distinct (take given C.labels) i h))

  not_unfit : unfit shape after ≡ false
  not_unfit = none _ _ (start P) (none _ _ not_thin (none _ _ (ap not is_steady) (none _ _ (ap not all_rise) (none _ _ (ap not all_sound) (ap not is_single)))))

  all_weigh : all joined_weighs (rows after 0 states) ≡ true
  all_weigh = ap (all joined_weighs) rows_back
      ∙ all_true joined_weighs E (all_map (λ a. Fair 4096 a.weight × (is_zero a.weight ≡ false)) (λ a. joined_weighs a ≡ true) (λ a h. joined_weighs_lem a.weight h.0 h.1) E
      (all_both (λ a. Fair 4096 a.weight) (λ a. is_zero a.weight ≡ false) E (fair P) (not_zero P)))

  not_crowded : crowded_in (rows after 0 states) (span 0 states) ≡ false
  not_crowded = ap (λ (l : List Edge). crowded_in l (span 0 states)) rows_back ∙ uncrowded P

  pub model_passes : model_refusal shape after ≡ 0
  unfolding model_refusal
  model_passes = check_skip 3 (large shape) _ 0 not_large (check_skip 4 (unfit shape after) _ 0 not_unfit
      (check_skip 5 (not (all joined_weighs (rows after 0 states))) _ 0 (ap not all_weigh) (check_skip 6 (crowded_in (rows after 0 states) (span 0 states)) 0 0 not_crowded refl)))

-- ---- the theorems: of a model that `build` answers with, and of the columns that it leaves

-- an answer that is a model was refused by no check
none_refused : (r : ℕ) (M : Columns) (done : Outcome) (S : Shape) → (settled r M done).answer ≡ Ok S → r ≡ 0
none_refused zero M done S h = refl
none_refused (suc n) M done S h = let z : ◌≡◌ {A = ℕ} 0 1 = cc in absurd (omega arith)

inner : {x y : Shape} → ◌≡◌ {A = Result Shape ℕ} (Ok x) (Ok y) → x ≡ y
inner {x} {y} p = cc

module _ (states : ℕ) (initial : Option StateId) (C : Transitions) (given : ℕ) (M : Columns) (S : Shape) (h : (build states initial C given M).answer ≡ Ok S) where
  unrefused : refusal states initial C given (short states given M) ≡ 0
  unfolding build
  unrefused = none_refused (refusal states initial C given (short states given M)) M (made states initial C given M) S h

  passed : Passed states initial C given
  passed = (passes states initial C given (short states given M) unrefused).0

  -- the outcome is the model of the transitions given
  pub built_is : build states initial C given M ≡ made states initial C given M
  unfolding build
  built_is = ap (λ (x : ℕ). settled x M (made states initial C given M)) unrefused

  pub shape_is : S ≡ record { states = states; edges = length (edges C given); labels = length (labels_of C given); initial = initial }
  shape_is = inner (sym h ∙ ap (λ (o : Outcome). o.answer) built_is)

  -- it passes every check of a built model
  pub built_accepted : model_refusal S (build states initial C given M).memory ≡ 0
  built_accepted =
      ap (λ (x : Shape). model_refusal x (build states initial C given M).memory) shape_is
      ∙ ap (λ (o : Outcome). model_refusal (shape states initial C given M passed) o.memory) built_is
      ∙ model_passes states initial C given M passed

  -- the rows of its states, one after the other, are the edges
  pub read_back : rows (build states initial C given M).memory 0 states ≡ edges C given
  read_back = ap (λ (o : Outcome). rows o.memory 0 states) built_is ∙ rows_back states initial C given M passed

  -- its label values are those of the transitions, by first appearance
  pub labels_back : take S.labels (build states initial C given M).memory.labels ≡ labels_of C given
  labels_back =
      ap (λ (x : Shape). take x.labels (build states initial C given M).memory.labels) shape_is
      ∙ ap (λ (o : Outcome). take (length (labels_of C given)) o.memory.labels) built_is ∙ take-append_seam (labels_of C given) (drop (length (labels_of C given)) M.labels)
