-- A model's edges, row by row through its offsets. Where the offsets do not fall, the rows of all states are the edges in order, so a test that
-- does not ask for the source holds of all rows if it holds of every edge; and the targets of a state are those of its own row.
use mathlib.Core.Path.{◌≡◌, refl, sym, subst, ap, ◌∙◌}
use mathlib.Core.Logic.{◌⊎◌, inl, inr, ◌≢◌}
use mathlib.Core.Bool.{Bool, true, false, ◌&&◌, ◌||◌, not, or-true}
use Prim.Native.Nat.{ℕ, zero, suc, ◌+◌, ◌-◌, ◌≤◌, ◌<◌}
use mathlib.Core.List.{List, [], ◌∷◌, ◌++◌, map, append-nil}
use native.Mathlib.Omega.{arith}
use native.Mathlib.Numerals.{add-one}
use lib.Dec.{eqb, ltb}
use lib.ListN.{length}
use borrow.Author.Tests.{ne_eqb}
use Rattle.numbers.specs.Lists.{span, every, all}
use Rattle.numbers.proofs.Bools.{eq_or_ne}
use Rattle.numbers.proofs.Alls.{all_append}
use Rattle.bisim_core.specs.Data.{Edge, Columns}
use Rattle.bisim_core.specs.Ids.{distinct}
use Rattle.bisim_core.specs.Edges.{chosen, others, crowded_at, crowded_in}
use Rattle.bisim_core.specs.Model.{begins, edge_at, row, rows}

-- ---- numbers in a row

pub span_append : (i a b : ℕ) → span i (a + b) ≡ span i a ++ span (i + a) b
unfolding span
span_append i zero b = ap (λ (n : ℕ). span i n) (let e : 0 + b ≡ b = omega arith in e) ∙ ap (λ (j : ℕ). span j b) (let e : i ≡ i + 0 = omega arith in e)
span_append i (suc a) b =
    ap (λ (n : ℕ). span i n) (let e : suc a + b ≡ suc (a + b) = omega arith in e)
    ∙ ap (λ (l : List ℕ). i ∷ l) (span_append (suc i) a b ∙ ap (λ (j : ℕ). span (suc i) a ++ span j b) (let e : suc i + a ≡ i + suc a = omega arith in e))

-- all of the numbers below n, either way
pub all_every : (u : ℕ → Bool) (n : ℕ) → all u (span 0 n) ≡ every u n
unfolding all every span
all_every u zero = refl
all_every u (suc n) =
    ap (λ (k : ℕ). all u (span 0 k)) (sym (add-one n)) ∙ ap (all u) (span_append 0 n 1) ∙ all_append u (span 0 n) (span (0 + n) 1)
    ∙ ap (λ (b : Bool). b && all u (span (0 + n) 1)) (all_every u n)
    ∙ ap (λ (j : ℕ). every u n && (u j && true)) (let e : 0 + n ≡ n = omega arith in e) ∙ turned (every u n) (u n)
  where
    turned : (a b : Bool) → (a && (b && true)) ≡ (b && a)
    turned true true = refl
    turned true false = refl
    turned false true = refl
    turned false false = refl

-- the targets of two lists of edges
pub others_append : (s : ℕ) (E F : List Edge) → others s (E ++ F) ≡ others s E ++ others s F
unfolding others
others_append s [] F = refl
others_append s (a ∷ E) F = pick (eqb a.source s && not (eqb a.target s)) (others_append s E F)
  where
    pick : (b : Bool) → others s (E ++ F) ≡ others s E ++ others s F → chosen b a.target (others s (E ++ F)) ≡ chosen b a.target (others s E) ++ others s F
    pick true e = ap (λ (l : List ℕ). a.target ∷ l) e
    pick false e = e

-- ---- all rows

module _ (M : Columns) where
  module _ (n : ℕ) (up : (s : ℕ) → s < n → begins M s ≤ begins M (s + 1)) where
    begins_more : (k s : ℕ) → s + k ≤ n → begins M s ≤ begins M (s + k)
    begins_more zero s h = subst (λ (x : ℕ). begins M s ≤ begins M x) (let e : s ≡ s + 0 = omega arith in e) (omega arith)
    begins_more (suc k) s h =
        let a = begins_more k s (omega arith) in
        let b = up (s + k) (omega arith) in
        subst (λ (x : ℕ). begins M s ≤ begins M x) (let e : s + k + 1 ≡ s + suc k = omega arith in e) (omega arith)

    pub begins_up : (s t : ℕ) → s ≤ t → t ≤ n → begins M s ≤ begins M t
    begins_up s t h k = let e : s + (t - s) ≡ t = omega arith in subst (λ (x : ℕ). begins M s ≤ begins M x) e (begins_more (t - s) s (omega arith))

  -- a test of an edge that does not ask for its source
  module _ (t : Edge → Bool) (u : ℕ → Bool) (blind : (s i : ℕ) → t (edge_at M s i) ≡ u i) where
    edges_all : (s i k : ℕ) → all t (map (edge_at M s) (span i k)) ≡ all u (span i k)
    unfolding all span
    edges_all s i zero = refl
    edges_all s i (suc k) = rw (blind s i) (ap (λ (b : Bool). u i && b) (edges_all s (suc i) k))

    module _ (n : ℕ) (up : (s : ℕ) → s < n → begins M s ≤ begins M (s + 1)) where
      rows_all : (k s : ℕ) → s + k ≤ n → all t (rows M s k) ≡ all u (span (begins M s) (begins M (s + k) - begins M s))
      unfolding all rows row span
      rows_all zero s h =
          let z : s ≡ s + 0 = omega arith in
          let e = ap (begins M) z in
          let f : 0 ≡ begins M (s + 0) - begins M s = omega arith in
          ap (λ (d : ℕ). all u (span (begins M s) d)) f
      rows_all (suc k) s h =
          let a = up s (omega arith) in
          let b = begins_up n up (s + 1) (s + suc k) (omega arith) h in
          let z : s + 1 + k ≡ s + suc k = omega arith in
          let y : begins M s + (begins M (s + 1) - begins M s) ≡ begins M (s + 1) = omega arith in
          let x : begins M (s + 1) - begins M s + (begins M (s + suc k) - begins M (s + 1)) ≡ begins M (s + suc k) - begins M s = omega arith in
          all_append t (row M s) (rows M (s + 1) k)
          ∙ ap (λ (b : Bool). b && all t (rows M (s + 1) k)) (edges_all s (begins M s) (begins M (s + 1) - begins M s))
          ∙ ap (λ (b : Bool). all u (span (begins M s) (begins M (s + 1) - begins M s)) && b)
          (rows_all k (s + 1) (omega arith) ∙ ap (λ (m : ℕ). all u (span (begins M (s + 1)) (begins M m - begins M (s + 1)))) z
          ∙ ap (λ (m : ℕ). all u (span m (begins M (s + suc k) - begins M (s + 1)))) (sym y))
          ∙ sym (all_append u (span (begins M s) (begins M (s + 1) - begins M s)) (span (begins M s + (begins M (s + 1) - begins M s)) (begins M (s + suc k) - begins M (s + 1))))
          ∙ ap (all u) (sym (span_append (begins M s) (begins M (s + 1) - begins M s) (begins M (s + suc k) - begins M (s + 1))))
          ∙ ap (λ (d : ℕ). all u (span (begins M s) d)) x

      -- the rows of all states are the edges from 0 to the last offset
      pub rows_every : begins M 0 ≡ 0 → all t (rows M 0 n) ≡ every u (begins M n)
      rows_every e =
          rows_all n 0 (omega arith) ∙ ap (λ (m : ℕ). all u (span (begins M 0) (begins M m - begins M 0))) (let z : 0 + n ≡ n = omega arith in z)
          ∙ ap (λ (m : ℕ). all u (span m (begins M n - m))) e ∙ ap (λ (d : ℕ). all u (span 0 d)) (let z : begins M n - 0 ≡ begins M n = omega arith in z)
          ∙ all_every u (begins M n)

  -- ---- the targets of one state

  others_away : (x s i k : ℕ) → x ≢ s → others s (map (edge_at M x) (span i k)) ≡ []
  unfolding others span
  others_away x s i zero h = refl
  others_away x s i (suc k) h = rw (ne_eqb x s h) (others_away x s (suc i) k h)

  others_later : (k a s : ℕ) → s < a → others s (rows M a k) ≡ []
  unfolding others rows row
  others_later zero a s h = refl
  others_later (suc k) a s h =
      others_append s (row M a) (rows M (a + 1) k)
      ∙ ap (λ (l : List ℕ). l ++ others s (rows M (a + 1) k)) (others_away a s (begins M a) (begins M (a + 1) - begins M a) (λ e. omega arith))
      ∙ others_later k (a + 1) s (omega arith)

  pub others_rows : (k a s : ℕ) → a ≤ s → s < a + k → others s (rows M a k) ≡ others s (row M s)
  unfolding rows row
  others_rows zero a s h j = absurd (omega arith)
  others_rows (suc k) a s h j = others_append s (row M a) (rows M (a + 1) k) ∙ pick (λ g. others_rows k (a + 1) s g (omega arith)) (eq_or_ne a s)
    where
      pick : (a + 1 ≤ s → others s (rows M (a + 1) k) ≡ others s (row M s)) → (a ≡ s) ⊎ (a ≢ s) → others s (row M a) ++ others s (rows M (a + 1) k) ≡ others s (row M s)
      pick ih (inl e) =
          ap (λ (l : List ℕ). others s (row M a) ++ l) (others_later k (a + 1) s (omega arith)) ∙ append-nil (others s (row M a)) ∙ ap (λ (x : ℕ). others s (row M x)) e
      pick ih (inr e) =
          ap (λ (l : List ℕ). l ++ others s (rows M (a + 1) k)) (others_away a s (begins M a) (begins M (a + 1) - begins M a) e) ∙ ih (omega arith)

-- the edges of a state, from where they begin to where the next's do
pub row_is : (M : Columns) (s from to : ℕ) → from ≡ begins M s → to ≡ begins M (s + 1) → map (edge_at M s) (span from (to - from)) ≡ row M s
unfolding row
row_is M s from to e f = rw (e, f)

-- ---- a crowded state

pub crowded_at_lem : (M : Columns) (n s : ℕ) → s < n → crowded_at (rows M 0 n) s ≡ ltb 31 (length (distinct (others s (row M s))))
crowded_at_lem M n s h = ap (λ (l : List ℕ). ltb 31 (length (distinct l))) (others_rows M n 0 s (omega arith) (omega arith))

pub crowded_none : (E : List Edge) (i k : ℕ) → ((s : ℕ) → i ≤ s → s < i + k → crowded_at E s ≡ false) → crowded_in E (span i k) ≡ false
unfolding crowded_in span
crowded_none E i zero h = refl
crowded_none E i (suc k) h = rw (h i (omega arith) (omega arith)) (crowded_none E (suc i) k (λ s j l. h s (omega arith) (omega arith)))

pub crowded_some : (E : List Edge) (s i k : ℕ) → i ≤ s → s < i + k → crowded_at E s ≡ true → crowded_in E (span i k) ≡ true
unfolding crowded_in span
crowded_some E s i zero h l e = absurd (omega arith)
crowded_some E s i (suc k) h l e = pick (λ g. crowded_some E s (suc i) k g (omega arith) e) (eq_or_ne i s)
  where
    pick : (suc i ≤ s → crowded_in E (span (suc i) k) ≡ true) → (i ≡ s) ⊎ (i ≢ s) → (crowded_at E i || crowded_in E (span (suc i) k)) ≡ true
    pick ih (inl z) = rw (subst (λ (x : ℕ). crowded_at E x ≡ true) (sym z) e)
    pick ih (inr z) = rw (ih (omega arith)) (or-true (crowded_at E i))

-- the same for all states of a model
pub crowded_not : (E : List Edge) (n : ℕ) → ((s : ℕ) → s < n → crowded_at E s ≡ false) → crowded_in E (span 0 n) ≡ false
crowded_not E n h = crowded_none E 0 n (λ s j l. h s (omega arith))

pub crowded_by : (E : List Edge) (n s : ℕ) → s < n → crowded_at E s ≡ true → crowded_in E (span 0 n) ≡ true
crowded_by E n s h e = crowded_some E s 0 n (omega arith) (omega arith) e
