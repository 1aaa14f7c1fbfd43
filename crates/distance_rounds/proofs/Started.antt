-- The run of two chains: what discovery leaves in the lists is what the store and the rounds read, and the rounds end with the definition's solution (`solve`).
use mathlib.Core.Path.{◌≡◌, refl, sym, subst, ap, ◌∙◌}
use Prim.Native.Nat.{ℕ, ◌+◌, ◌≤◌, ◌<◌}
use mathlib.Core.Bool.{true, false}
use mathlib.Core.List.{List, [], map}
use native.Mathlib.Omega.{arith}
use lib.ListN.{length, get_or, take, replicate, length-map, length-replicate, get_or-append}
use lib.Seq.{take_at}
use lib.Ieee.{Float, inf}
use borrow.Author.Tests.{lt-ltb, le-leb}
use Rattle.numbers.specs.Real.{nought}
use Rattle.numbers.specs.Lists.{over}
use Rattle.numbers.proofs.Members.{in_at}
use Rattle.epsdelta_theory.proofs.RowReads.{starts_up}
use Rattle.chain_theory.specs.Columns.{ChainColumns, chain_columns, begins, chain_of, reads_row}
use Rattle.chain_theory.specs.declared.ChainShape.{ChainShape}
use Rattle.chain_theory.proofs.Shaped.{Shaped}
use Rattle.distance_theory.specs.Pairs.{Pair, pair, pair_at, most, row_of, pairs}
use Rattle.distance_theory.specs.Couplings.{Metric, cost_of, metric}
use Rattle.distance_theory.specs.Rounds.{begin, tolerance, solve}
use Rattle.distance_theory.specs.declared.MetricOptions.{MetricOptions}
use Rattle.distance_theory.proofs.Crossings.{map_at}
use Rattle.distance_theory.proofs.Explore.{pairs_apart}
use Rattle.distance_theory.proofs.Inside.{Of, AllOf, pairs_of, row_at, chain_sound}
use Rattle.distance_theory.proofs.Index.{look_up, index, index_length, look_up_is}
use Rattle.distance_theory.proofs.Discovery.{lefts, rights}
use Rattle.distance_theory.proofs.Lengths.{solve_is}
use Rattle.distance_theory.proofs.Store.{Whole, first_stored}
use Rattle.distance_words.proofs.Store.{Filled}
use Rattle.distance_store.proofs.Kept.{Ready, Held}
use Rattle.distance_words.proofs.Iterating.{Task, iterated, iterate_from}
use Rattle.distance_rounds.proofs.Rounded.{Serves, Solves, iterate_same}

-- the columns that are read
abbrev pub bare : ChainColumns → ChainColumns
bare C = chain_columns C.offsets C.targets C.probabilities []

reads_of : (H : ChainShape) (C : ChainColumns) → Shaped H C → (x : ℕ) → x < H.states → reads_row (bare C) x ≡ true
reads_of H C S x h =
    let u = starts_up C.offsets H.states S.rows.rise (x + 1) H.states (omega arith) (omega arith) in
    let o = S.rows.offsets_long in let r = S.rows.rise x h in let t = S.rows.targets_long in let p = S.rows.probabilities_long in
    rw (lt-ltb (x + 1) (length C.offsets) (omega arith), le-leb (begins C x) (begins C (x + 1)) r, le-leb (begins C (x + 1)) (length C.targets) (omega arith), le-leb (begins C (x + 1)) (length C.probabilities) (omega arith))

-- two chains that pass check 4, with rows of at most 32 entries and at most 4,096 pairs
module _ (HL : ChainShape) (CL : ChainColumns) (HR : ChainShape) (CR : ChainColumns) (γ : Float) (SL : Shaped HL CL) (SR : Shaped HR CR) (few : HR.states ≤ 2000)
    (slimL : (x : ℕ) → x < HL.states → length (row_of (chain_of HL CL) x) ≤ 32) (slimR : (x : ℕ) → x < HR.states → length (row_of (chain_of HR CR) x) ≤ 32)
    (fit : length (pairs (chain_of HL CL) (chain_of HR CR)) ≤ most) where
  abbrev found : List Pair
  found = pairs (chain_of HL CL) (chain_of HR CR)

  low : AllOf HL.states HR.states found
  low = pairs_of HL.states HR.states (chain_of HL CL) (chain_of HR CR) (chain_sound HL CL SL) (chain_sound HR CR SR)

  low_at : (k : ℕ) → k < length found → Of HL.states HR.states (pair_at found k)
  low_at k h = low (pair_at found k) (in_at found k (pair 0 0) h)

  abbrev G : Metric
  G = record { left = chain_of HL CL; right = chain_of HR CR; gamma = γ; found = found; cost = map (cost_of (chain_of HL CL) (chain_of HR CR) γ) found }

  metric_is : metric (chain_of HL CL) (chain_of HR CR) γ ≡ G
  unfolding metric
  metric_is = refl

  ready_of : (l l₀ r r₀ c c₀ : List ℕ) → l ≡ over (lefts found) l₀ → r ≡ over (rights found) r₀ → c ≡ over (index found) c₀ → Ready G l r (take (length found) c) (bare CL) (bare CR)
  ready_of l l₀ r r₀ c c₀ el er ec =
      let t : take (length found) c ≡ index found = ap (take (length found)) ec ∙ take_at (index found) _ (length found) (index_length found) in
      record {
        left_at = λ k h. ap (λ (z : List ℕ). get_or z k 0) el ∙ get_or-append (lefts found) _ 0 k (let a = length-map found (λ (p : Pair). p.left) in omega arith) ∙ map_at (λ (p : Pair). p.left) found k 0 (pair 0 0) h;
        right_at = λ k h. ap (λ (z : List ℕ). get_or z k 0) er ∙ get_or-append (rights found) _ 0 k (let a = length-map found (λ (p : Pair). p.right) in omega arith) ∙ map_at (λ (p : Pair). p.right) found k 0 (pair 0 0) h;
        look = λ p. ap (λ (z : List ℕ). look_up z p) t ∙ look_up_is HL.states found (pairs_apart (chain_of HL CL) (chain_of HR CR)) (λ q i. let o = low q i in let u = o.1 in (o.0, omega arith)) fit p;
        codes_few = let a = ap length t in let b = index_length found in omega arith;
        left_reads = λ k h. reads_of HL CL SL (pair_at found k).left (low_at k h).0;
        right_reads = λ k h. reads_of HR CR SR (pair_at found k).right (low_at k h).1;
        left_row = λ k h. sym (row_at HL CL (pair_at found k).left (low_at k h).0);
        right_row = λ k h. sym (row_at HR CR (pair_at found k).right (low_at k h).1);
        left_few = λ k h. slimL (pair_at found k).left (low_at k h).0;
        right_few = λ k h. slimR (pair_at found k).right (low_at k h).1;
      }

  -- what discovery has left in the lists can be read
  pub ready : (l l₀ r r₀ c c₀ : List ℕ) → l ≡ over (lefts found) l₀ → r ≡ over (rights found) r₀ → c ≡ over (index found) c₀ → Ready (metric (chain_of HL CL) (chain_of HR CR) γ) l r (take (length found) c) (bare CL) (bare CR)
  ready l l₀ r r₀ c c₀ el er ec = subst (λ (H : Metric). Ready H l r (take (length found) c) (bare CL) (bare CR)) (sym metric_is) (ready_of l l₀ r r₀ c c₀ el er ec)

-- ---- the rounds from the first couplings on

-- no value yet, and a store that is filled
pub begun : {G : Metric} {lefts rights codes : List ℕ} {C D : ChainColumns} (Y : Ready G lefts rights codes C D) (W : Whole G) (S L P : List ℕ) (M : List Float) (f : Filled) → Held Y S L P M f
    → Solves G f.starts f.places f.masses (begin G) (iterated (inf false) 0 (replicate (length G.found) nought) f.lengths f.places f.masses)
unfolding begin
begun {G} Y W S L P M f H = record {
  residual_is = refl;
  rounds_are = refl;
  values_are = refl;
  values_size = length-replicate {A = Float} (length G.found) nought;
  stored = first_stored G W;
  keeps = H.keeps;
  places_size = refl;
  masses_size = refl;
}

-- they end with the solution
pub solved : {G : Metric} (o : MetricOptions) {lefts rights codes : List ℕ} {C D : ChainColumns} (Y : Ready G lefts rights codes C D) (T : Task) (S L P : List ℕ) (M : List Float) (f : Filled) → Held Y S L P M f → T.starts ≡ f.starts
    → Serves G (tolerance o) T f.places f.masses
    → Solves G T.starts f.places f.masses (solve G o) (iterate_from T o.max_rounds (inf false) 0 (replicate (length G.found) nought) f.lengths f.places f.masses)
solved {G} o Y T S L P M f H e Z =
    subst (λ s. Solves G T.starts f.places f.masses s (iterate_from T o.max_rounds (inf false) 0 (replicate (length G.found) nought) f.lengths f.places f.masses)) (sym (solve_is G o))
    (iterate_same Z o.max_rounds (begin G) (iterated (inf false) 0 (replicate (length G.found) nought) f.lengths f.places f.masses)
    (subst (λ (x : List ℕ). Solves G x f.places f.masses (begin G) (iterated (inf false) 0 (replicate (length G.found) nought) f.lengths f.places f.masses)) (sym e) (begun Y Z.whole S L P M f H)))
