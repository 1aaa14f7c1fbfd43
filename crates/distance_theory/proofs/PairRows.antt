-- The couplings of two states as the code makes them: their rows are read from the columns of two chains, if these can be read.
use Rattle.std.specs.Prelude.{Some}
use Rattle.chain_theory.specs.declared.Row.{Row}
use mathlib.Core.Path.{◌≡◌, refl, sym, ap, ap₂, ◌∙◌}
use Prim.Native.Nat.{ℕ, ◌≤◌, ◌<◌, ◌+◌}
use mathlib.Core.Bool.{Bool, true, false, ◌&&◌, true≢false}
use mathlib.Core.List.{List, []}
use native.Mathlib.Omega.{arith}
use lib.ListN.{length, get_or}
use lib.Ieee.{Float}
use Rattle.numbers.specs.Real.{nought}
use borrow.Author.Tests.{lt-ltb, le-leb, lt-leb}
use Rattle.numbers.proofs.Bools.{and_t, and_first, and_second}
use Rattle.chain_theory.specs.Columns.{ChainColumns, chain_columns, reads_row, row_targets, row_rates}
use Rattle.chain_theory.specs.Lent.{RowRead, of_chain}
use Rattle.epsdelta_theory.specs.Jumps.{Jump, jumps_of}
use Rattle.distance_theory.specs.Couplings.{Share}
use Rattle.distance_theory.specs.declared.lent.Rows.{Rows}
use Rattle.distance_theory.specs.declared.lent.Task.{Task}
use Rattle.distance_theory.specs.Lent.{RowsRead}
use Rattle.distance_theory.proofs.Index.{look_up}
use Rattle.distance_theory.proofs.Bests.{Look, independent_by, rows_fit, fitting, Laid, laid, lay_if, lay_on, Bested, bested, best_on, cells_room, beside, cells_few, freely_length}

-- the entries of a row that is lent
abbrev pub row_jumps : Row → List Jump
row_jumps R = jumps_of R.targets.now R.probs.now

-- where not both rows can be, nothing is done
abbrev pub laid_when : Bool → Laid → List ℕ → List Float → Laid
laid_when true r p m = r
laid_when false r p m = laid false 0 p m

abbrev pub bested_when : Bool → Bested → List ℕ → List Float → Bested
bested_when true r p m = r
bested_when false r p m = bested nought 0 p m

module _ (look : Look) (C D : ChainColumns) (codes x y : ℕ) where
  abbrev pub lay_read : List ℕ → List Float → Laid
  lay_read p m = lay_on look (row_targets C x) (row_rates C x) (row_targets D y) (row_rates D y) codes p m

  abbrev pub best_read : List Float → List ℕ → List Float → Bested
  best_read v p m = best_on look (row_targets C x) (row_rates C x) (row_targets D y) (row_rates D y) codes p m v

  -- the independent coupling of states x and y over the front of two lists, and the cheapest one against values v
  abbrev pub lay_pair : List ℕ → List Float → Laid
  lay_pair p m = laid_when (reads_row C x && reads_row D y) (lay_read p m) p m

  abbrev pub best_pair : List Float → List ℕ → List Float → Bested
  best_pair v p m = bested_when (reads_row C x && reads_row D y) (best_read v p m) p m

-- a row whose end lies past the targets can't be read
pub row_targets_lem : (O T : List ℕ) (P : List Float) (x : ℕ) → x + 1 < length O → (f t : ℕ) → f ≡ get_or O x 0 → t ≡ get_or O (x + 1) 0 → f ≤ t → length T < t → false ≡ reads_row (chain_columns O T P []) x
row_targets_lem O T P x h f t ef et k l =
    let e = lt-leb (get_or O (x + 1) 0) (length T) (omega arith) in
    and_second _ _ _ (lt-ltb (x + 1) (length O) h) (and_second _ _ _ (le-leb (get_or O x 0) (get_or O (x + 1) 0) (omega arith)) (sym e ∙ and_first _ _ e))

-- ---- what is laid where both rows are read

module _ (look : Look) (C D : ChainColumns) (codes x y : ℕ) where
  module _ (R S : Row) (RL : RowRead (Some R) C x) (RR : RowRead (Some S) D y) where
    pub pair_laid : (p : List ℕ) (m : List Float) (r : Laid) → r ≡ lay_on look R.targets.now R.probs.now S.targets.now S.probs.now codes p m → r ≡ lay_pair look C D codes x y p m
    pair_laid p m r e =
        e ∙ (λ i. lay_on look (RL.1 i) (RL.2 i) (RR.1 i) (RR.2 i) codes p m)
        ∙ ap₂ (λ (a b : Bool). laid_when (a && b) (lay_read look C D codes x y p m) p m) (sym RL.0) (sym RR.0)

    pub pair_bested : (v : List Float) (p : List ℕ) (m : List Float) (r : Bested) → r ≡ best_on look R.targets.now R.probs.now S.targets.now S.probs.now codes p m v → r ≡ best_pair look C D codes x y v p m
    pair_bested v p m r e =
        e ∙ (λ i. best_on look (RL.1 i) (RL.2 i) (RR.1 i) (RR.2 i) codes p m v)
        ∙ ap₂ (λ (a b : Bool). bested_when (a && b) (best_read look C D codes x y v p m) p m) (sym RL.0) (sym RR.0)

-- ---- what was laid

module _ (look : Look) (xs : List ℕ) (ps : List Float) (ys : List ℕ) (qs : List Float) (codes : ℕ) (p : List ℕ) (m : List Float) where
  abbrev shares : List Share
  shares = independent_by look (jumps_of xs ps) (jumps_of ys qs)

  abbrev all_fit : Bool
  all_fit = fitting (length xs) (length ps) (length ys) (length qs) codes (length p) (length m)

  on_fits : (r : Laid) → r ≡ lay_on look xs ps ys qs codes p m → r.done ≡ true → (r.cells ≤ 1024) × (r.cells ≤ length p) × (r.cells ≤ length m)
  on_fits r e d = pick all_fit refl
    where
      pick : (b : Bool) → all_fit ≡ b → (r.cells ≤ 1024) × (r.cells ≤ length p) × (r.cells ≤ length m)
      pick false f = absurd (true≢false (sym d ∙ ap (λ (l : Laid). l.done) e ∙ ap (λ (b : Bool). (lay_if b shares p m).done) f))
      pick true f =
          let (a, w) = and_t (rows_fit (length xs) (length ps) (length ys) (length qs) codes) _ f in
          let B = beside xs ps ys qs codes true (sym a) refl in
          let k = cells_room (length xs) (length ys) (length p) (length m) true (sym w) refl in
          let h = k.0 in let i = k.1 in
          let c = cells_few look xs ps ys qs codes B in
          let n : r.cells ≡ length shares = ap (λ (l : Laid). l.cells) e ∙ ap (λ (b : Bool). (lay_if b shares p m).cells) f in
          let q = freely_length look xs ps ys qs codes B in
          (omega arith, omega arith, omega arith)

  on_kept : (r : Laid) → r ≡ lay_on look xs ps ys qs codes p m → r.done ≡ false → (r.places ≡ p) × (r.masses ≡ m)
  on_kept r e d = pick all_fit refl
    where
      pick : (b : Bool) → all_fit ≡ b → (r.places ≡ p) × (r.masses ≡ m)
      pick true f = absurd (true≢false (sym (ap (λ (l : Laid). l.done) e ∙ ap (λ (b : Bool). (lay_if b shares p m).done) f) ∙ d))
      pick false f = (ap (λ (l : Laid). l.places) e ∙ ap (λ (b : Bool). (lay_if b shares p m).places) f, ap (λ (l : Laid). l.masses) e ∙ ap (λ (b : Bool). (lay_if b shares p m).masses) f)

module _ (look : Look) (C D : ChainColumns) (codes x y : ℕ) (p : List ℕ) (m : List Float) (r : Laid) (e : r ≡ lay_pair look C D codes x y p m) where
  abbrev pair_reads : Bool
  pair_reads = reads_row C x && reads_row D y

  -- a coupling that was laid is no longer than 1,024 shares, and than the lists
  pub part_fits : r.done ≡ true → (r.cells ≤ 1024) × (r.cells ≤ length p) × (r.cells ≤ length m)
  part_fits d = pick pair_reads refl
    where
      pick : (b : Bool) → pair_reads ≡ b → (r.cells ≤ 1024) × (r.cells ≤ length p) × (r.cells ≤ length m)
      pick true f = on_fits look (row_targets C x) (row_rates C x) (row_targets D y) (row_rates D y) codes p m r (e ∙ ap (λ (b : Bool). laid_when b (lay_read look C D codes x y p m) p m) f) d
      pick false f = absurd (true≢false (sym d ∙ ap (λ (l : Laid). l.done) e ∙ ap (λ (b : Bool). (laid_when b (lay_read look C D codes x y p m) p m).done) f))

  -- where none was, the lists are as they were
  pub part_kept : r.done ≡ false → (r.places ≡ p) × (r.masses ≡ m)
  part_kept d = pick pair_reads refl
    where
      pick : (b : Bool) → pair_reads ≡ b → (r.places ≡ p) × (r.masses ≡ m)
      pick true f = on_kept look (row_targets C x) (row_rates C x) (row_targets D y) (row_rates D y) codes p m r (e ∙ ap (λ (b : Bool). laid_when b (lay_read look C D codes x y p m) p m) f) d
      pick false f = (ap (λ (l : Laid). l.places) e ∙ ap (λ (b : Bool). (laid_when b (lay_read look C D codes x y p m) p m).places) f, ap (λ (l : Laid). l.masses) e ∙ ap (λ (b : Bool). (laid_when b (lay_read look C D codes x y p m) p m).masses) f)

-- ---- the couplings of pair k of a task

abbrev pub lay_pair_of : Task → ℕ → List ℕ → List Float → Laid
lay_pair_of T k = lay_pair (look_up T.pairs.codes.now) (of_chain T.left) (of_chain T.right) (length T.pairs.codes.now) (get_or T.pairs.lefts.now k 0) (get_or T.pairs.rights.now k 0)

abbrev pub best_pair_of : Task → ℕ → List Float → List ℕ → List Float → Bested
best_pair_of T k = best_pair (look_up T.pairs.codes.now) (of_chain T.left) (of_chain T.right) (length T.pairs.codes.now) (get_or T.pairs.lefts.now k 0) (get_or T.pairs.rights.now k 0)

module _ (T : Task) (k : ℕ) where
  abbrev C : ChainColumns
  C = of_chain T.left

  abbrev D : ChainColumns
  D = of_chain T.right

  abbrev x : ℕ
  x = get_or T.pairs.lefts.now k 0

  abbrev y : ℕ
  y = get_or T.pairs.rights.now k 0

  abbrev codes : List ℕ
  codes = T.pairs.codes.now

  -- no rows
  pub rows_unlaid : (reads_row C x && reads_row D y) ≡ false → (p : List ℕ) (m : List Float) → laid false 0 p m ≡ lay_pair_of T k p m
  rows_unlaid h p m = ap (λ (b : Bool). laid_when b (lay_read (look_up codes) C D (length codes) x y p m) p m) (sym h)

  pub rows_unbested : (reads_row C x && reads_row D y) ≡ false → (v : List Float) (p : List ℕ) (m : List Float) → bested nought 0 p m ≡ best_pair_of T k v p m
  rows_unbested h v p m = ap (λ (b : Bool). bested_when b (best_read (look_up codes) C D (length codes) x y v p m) p m) (sym h)

  module _ (R : Rows) (H : RowsRead (Some R) T k) where
    pub rows_laid : (p : List ℕ) (m : List Float) (r : Laid) → r ≡ lay_on (look_up R.codes.now) R.xs.targets.now R.xs.probs.now R.ys.targets.now R.ys.probs.now (length R.codes.now) p m → r ≡ lay_pair_of T k p m
    rows_laid p m r e =
        pair_laid (look_up codes) C D (length codes) x y R.xs R.ys H.1 H.2 p m r
        (e ∙ ap (λ (c : List ℕ). lay_on (look_up c) R.xs.targets.now R.xs.probs.now R.ys.targets.now R.ys.probs.now (length c) p m) H.3)

    pub rows_bested : (v : List Float) (p : List ℕ) (m : List Float) (r : Bested) → r ≡ best_on (look_up R.codes.now) R.xs.targets.now R.xs.probs.now R.ys.targets.now R.ys.probs.now (length R.codes.now) p m v → r ≡ best_pair_of T k v p m
    rows_bested v p m r e =
        pair_bested (look_up codes) C D (length codes) x y R.xs R.ys H.1 H.2 v p m r
        (e ∙ ap (λ (c : List ℕ). best_on (look_up c) R.xs.targets.now R.xs.probs.now R.ys.targets.now R.ys.probs.now (length c) p m v) H.3)
