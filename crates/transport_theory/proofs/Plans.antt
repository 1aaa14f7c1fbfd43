-- The loop that writes the plan: the cells that are still to come are the rest of the plan.
use mathlib.Core.Path.{◌≡◌, refl, sym, ap, ◌∙◌}
use Prim.Native.Nat.{ℕ, zero, suc, ◌+◌, ◌-◌, ◌*◌, ◌/◌, ◌%◌, ◌≤◌, ◌<◌}
use mathlib.Core.Bool.{Bool, true, false}
use mathlib.Core.List.{List, [], ◌∷◌, map}
use native.Mathlib.Omega.{arith}
use native.Mathlib.Numerals.{add-one}
use lib.ListN.{length, get_or, set, take, drop, length-map, get_or-map}
use lib.Seq.{slice, slice_empty, slice-cons, length-take-le, get_or-take}
use lib.Ieee.{Float, nan, binary64, lt, add, mul}
use Rattle.numbers.specs.Real.{nought, eps, sum_from, sum}
use Rattle.numbers.proofs.Over.{over, over_next, over_done, over_length}
use Rattle.flow_theory.specs.Network.{left, rev}
use Rattle.transport_theory.specs.Transport.{Cell, keep, moved, plan, bills}
use Rattle.transport_theory.proofs.Networks.{columns_some, cells_few}
use Rattle.transport_theory.proofs.PlanRows.{Plannable, Planned}

abbrev blank : Cell
blank = record { row = 0; column = 0; mass = nan }

-- ---- the rest of a list

rest_some : {A : Type 0} (l : List A) (t : ℕ) (y : A) (ys : List A) (z : A) → drop t l ≡ y ∷ ys → (t < length l) × (get_or l t z ≡ y) × (drop (t + 1) l ≡ ys)
rest_some [] zero y ys z e = absurd (let q = ap length e in omega arith)
rest_some [] (suc t) y ys z e = absurd (let q = ap length e in omega arith)
rest_some {A} (x ∷ l) zero y ys z e = (omega arith, ap (λ (r : List A). get_or r 0 z) e, ap (drop 1) e)
rest_some {A} (x ∷ l) (suc t) y ys z e =
    let r = rest_some l t y ys z e in let i = r.0 in
    (omega arith, r.1, ap (λ (j : ℕ). drop {A = A} j (x ∷ l)) (let q : suc t + 1 ≡ suc (t + 1) = omega arith in q) ∙ r.2)

rest_none : {A : Type 0} (l : List A) (t : ℕ) → drop t l ≡ [] → length l ≤ t
rest_none [] t e = omega arith
rest_none (x ∷ l) zero e = absurd (let q = ap length e in omega arith)
rest_none (x ∷ l) (suc t) e = let r = rest_none l t e in omega arith

-- ---- one cell

keep_length : (b : Bool) (c : Cell) (cs : List Cell) → length (keep b c cs) ≤ suc (length cs)
unfolding keep
keep_length true c cs = omega arith
keep_length false c cs = omega arith

-- a plan has no more cells than were looked at
pub plan_length : (n f : ℕ) (c : List Float) (j k : ℕ) → length (plan n f c j k) ≤ j
unfolding plan
plan_length n f c zero k = omega arith
plan_length n f c (suc j) k =
    let r = plan_length n f c j (suc k) in
    let a = keep_length (lt eps (moved f c k)) (record { row = k / n; column = k % n; mass = moved f c k }) (plan n f c j (suc k)) in omega arith

plan_step : (n f : ℕ) (c : List Float) (count k : ℕ) (b : Bool) → k < count → lt eps (moved f c k) ≡ b
    → plan n f c (count - k) k ≡ keep b (record { row = k / n; column = k % n; mass = moved f c k }) (plan n f c (count - (k + 1)) (k + 1))
unfolding plan
plan_step n f c count k b h e =
    let q : count - k ≡ suc (count - (k + 1)) = omega arith in
    ap (λ (j : ℕ). plan n f c j k) q
    ∙ ap (λ (s : Bool). keep s (record { row = k / n; column = k % n; mass = moved f c k }) (plan n f c (count - (k + 1)) (suc k))) e
    ∙ ap (λ (i : ℕ). keep b (record { row = k / n; column = k % n; mass = moved f c k }) (plan n f c (count - (k + 1)) i)) (sym (add-one k))

bills_step : (f : ℕ) (c costs : List Float) (count k : ℕ) (b : Bool) → k < count → count ≤ length costs → lt eps (moved f c k) ≡ b
    → bills f c (slice k count costs) k ≡ keep b (mul binary64 (moved f c k) (get_or costs k nan)) (bills f c (slice (k + 1) count costs) (k + 1))
unfolding bills
bills_step f c costs count k b h g e =
    ap (λ (l : List Float). bills f c l k) (slice-cons k count costs nan h g)
    ∙ ap (λ (s : Bool). keep s (mul binary64 (moved f c k) (get_or costs k nan)) (bills f c (slice (suc k) count costs) (suc k))) e
    ∙ ap (λ (i : ℕ). keep b (mul binary64 (moved f c k) (get_or costs k nan)) (bills f c (slice i count costs) i)) (sym (add-one k))

-- ---- the loop

-- t cells of p are written; those from cell k on are the rest of p, and what they cost is still to be added
pub record Planning (c : List Float) (first n count : ℕ) (costs : List Float) (rows₀ columns₀ : List ℕ) (masses₀ : List Float) (total : Float) (t k : ℕ) (rows columns : List ℕ) (masses : List Float) : Type 0 where
  pub upto : k ≤ count
  pub cells_in : t ≤ length (plan n first c count 0)
  pub plan_is : drop t (plan n first c count 0) ≡ plan n first c (count - k) k
  pub total_is : sum_from total (bills first c (slice k count costs) k) ≡ sum (bills first c (take count costs) 0)
  pub rows_is : rows ≡ over (map (λ (x : Cell). x.row) (plan n first c count 0)) t rows₀
  pub columns_is : columns ≡ over (map (λ (x : Cell). x.column) (plan n first c count 0)) t columns₀
  pub masses_is : masses ≡ over (map (λ (x : Cell). x.mass) (plan n first c count 0)) t masses₀

module _ {c : List Float} {first m n : ℕ} {costs : List Float} {rows₀ columns₀ : List ℕ} {masses₀ : List Float} (S : Plannable c first m n costs rows₀ columns₀ masses₀) where
  abbrev count : ℕ
  count = m * n

  abbrev p : List Cell
  p = plan n first c count 0

  pub count_few : m * n ≤ 1024
  count_few = cells_few m n S.few_m S.few_n

  pub plan_starts : Planning c first n count costs rows₀ columns₀ masses₀ nought 0 0 rows₀ columns₀ masses₀
  unfolding sum
  plan_starts = record {
    upto = omega arith;
    cells_in = omega arith;
    plan_is = ap (λ (j : ℕ). plan n first c j 0) (let q : count ≡ count - 0 = omega arith in q);
    total_is = refl;
    rows_is = refl;
    columns_is = refl;
    masses_is = refl;
  }

  module _ {total : Float} {t k : ℕ} {rows columns : List ℕ} {masses : List Float} (I : Planning c first n count costs rows₀ columns₀ masses₀ total t k rows columns masses) where
    most : t ≤ count
    most = let a = I.cells_in in let b = plan_length n first c count 0 in omega arith

    pub rows_size : length rows ≡ length rows₀
    rows_size = ap length I.rows_is ∙ over_length (map (λ (x : Cell). x.row) p) rows₀ t (rw (length-map p (λ (x : Cell). x.row)) I.cells_in) (let a = most in let b = S.rows_room in omega arith)

    pub columns_size : length columns ≡ length columns₀
    columns_size = ap length I.columns_is ∙ over_length (map (λ (x : Cell). x.column) p) columns₀ t (rw (length-map p (λ (x : Cell). x.column)) I.cells_in) (let a = most in let b = S.columns_room in omega arith)

    pub masses_size : length masses ≡ length masses₀
    masses_size = ap length I.masses_is ∙ over_length (map (λ (x : Cell). x.mass) p) masses₀ t (rw (length-map p (λ (x : Cell). x.mass)) I.cells_in) (let a = most in let b = S.masses_room in omega arith)

    -- the loop goes over the costs of all cells
    pub turn : k < length (take (m * n) costs) → k < m * n
    turn h = let l = length-take-le (m * n) costs S.costs_in in omega arith

    pub end : length (take (m * n) costs) ≤ k → m * n ≤ k
    end h = let l = length-take-le (m * n) costs S.costs_in in omega arith

    module _ (more : k < m * n) where
      pub some : 0 < n
      some = columns_some m n k more

      -- of the link whose capacity is the mass of cell k
      module _ {e : ℕ} (back : e ≡ rev (first + 2 * k)) where
        pub place_in : e < length c
        place_in = rw back (S.caps_in k more)

        abbrev x : Float
        x = get_or c e nan

        x_is : x ≡ moved first c k
        unfolding moved left
        x_is = ap (λ (i : ℕ). get_or c i nan) back

        abbrev cell : Cell
        cell = record { row = k / n; column = k % n; mass = moved first c k }

        -- a cell that is not above 1e-12 is left out
        pub plan_skips : lt eps x ≡ false → {total' : Float} {t' : ℕ} {rows' columns' : List ℕ} {masses' : List Float} → rows' ≡ rows → columns' ≡ columns → masses' ≡ masses → total' ≡ total → t' ≡ t
            → Planning c first n count costs rows₀ columns₀ masses₀ total' t' (k + 1) rows' columns' masses'
        unfolding keep
        plan_skips f a b d y g =
            let z = ap (lt eps) (sym x_is) ∙ f in
            rw (a, b, d, y, g) (record {
              upto = omega arith;
              cells_in = I.cells_in;
              plan_is = I.plan_is ∙ plan_step n first c count k false more z;
              total_is = ap (sum_from total) (sym (bills_step first c costs count k false more S.costs_in z)) ∙ I.total_is;
              rows_is = I.rows_is;
              columns_is = I.columns_is;
              masses_is = I.masses_is;
            })

        module _ (f : lt eps x ≡ true) where
          here : (t < length p) × (get_or p t blank ≡ cell) × (drop (t + 1) p ≡ plan n first c (count - (k + 1)) (k + 1))
          unfolding keep
          here = rest_some p t cell (plan n first c (count - (k + 1)) (k + 1)) blank (I.plan_is ∙ plan_step n first c count k true more (ap (lt eps) (sym x_is) ∙ f))

          pub rows_in_lem : t < length rows
          rows_in_lem = let h = here.0 in let b = plan_length n first c count 0 in let r = S.rows_room in let s = rows_size in omega arith

          pub columns_in : t < length columns
          columns_in = let h = here.0 in let b = plan_length n first c count 0 in let r = S.columns_room in let s = columns_size in omega arith

          pub masses_in : t < length masses
          masses_in = let h = here.0 in let b = plan_length n first c count 0 in let r = S.masses_room in let s = masses_size in omega arith

          field_at : {A : Type 0} (g : Cell → A) → g cell ≡ get_or (map g p) t (g blank)
          field_at g = sym (get_or-map g p t blank ∙ ap g here.1)

          pub plan_keeps : {total' : Float} {t' : ℕ} {rows' columns' : List ℕ} {masses' : List Float} → rows' ≡ set rows t (k / n) → columns' ≡ set columns t (k % n) → masses' ≡ set masses t x
              → total' ≡ add binary64 total (mul binary64 x (get_or (take count costs) k nan)) → t' ≡ t + 1 → Planning c first n count costs rows₀ columns₀ masses₀ total' t' (k + 1) rows' columns' masses'
          unfolding keep sum_from
          plan_keeps a b d y g =
              let z = ap (lt eps) (sym x_is) ∙ f in
              let h = here.0 in
              let l = plan_length n first c count 0 in
              let r = S.rows_room in let s = S.columns_room in let u = S.masses_room in
              let mr = length-map p (λ (y : Cell). y.row) in let mc = length-map p (λ (y : Cell). y.column) in let mm = length-map p (λ (y : Cell). y.mass) in
              rw (a, b, d, y, g, x_is, get_or-take count costs k nan more) (record {
                upto = omega arith;
                cells_in = omega arith;
                plan_is = here.2;
                total_is = ap (sum_from total) (sym (bills_step first c costs count k true more S.costs_in z)) ∙ I.total_is;
                rows_is = over_next (map (λ (y : Cell). y.row) p) rows₀ rows t 0 (k / n) I.rows_is (field_at (λ (y : Cell). y.row)) (omega arith) (omega arith);
                columns_is = over_next (map (λ (y : Cell). y.column) p) columns₀ columns t 0 (k % n) I.columns_is (field_at (λ (y : Cell). y.column)) (omega arith) (omega arith);
                masses_is = over_next (map (λ (y : Cell). y.mass) p) masses₀ masses t nan (moved first c k) I.masses_is (field_at (λ (y : Cell). y.mass)) (omega arith) (omega arith);
              })

    pub plan_ends : m * n ≤ k → Planned p (sum (bills first c (take count costs) 0)) rows₀ columns₀ masses₀ total t rows columns masses
    unfolding plan bills sum_from
    plan_ends le =
        let u = I.upto in
        let q : count ≡ k = omega arith in
        let none : length p ≤ t = rest_none p t (I.plan_is ∙ ap (λ (j : ℕ). plan n first c j k) (let z : count - k ≡ 0 = omega arith in z)) in
        let i = I.cells_in in
        let e : t ≡ length p = omega arith in
        record {
          total_is = ap (λ (l : List Float). sum_from total (bills first c l k)) (sym (slice_empty count costs) ∙ ap (λ (j : ℕ). slice j count costs) q) ∙ I.total_is;
          cells_is = e;
          rows_is = over_done (map (λ (y : Cell). y.row) p) rows₀ rows t I.rows_is (e ∙ sym (length-map p (λ (y : Cell). y.row)));
          columns_is = over_done (map (λ (y : Cell). y.column) p) columns₀ columns t I.columns_is (e ∙ sym (length-map p (λ (y : Cell). y.column)));
          masses_is = over_done (map (λ (y : Cell). y.mass) p) masses₀ masses t I.masses_is (e ∙ sym (length-map p (λ (y : Cell). y.mass)));
        }
