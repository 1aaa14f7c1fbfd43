-- What the transport of two rows answers: its sizes fit, so that there is a plan, whose cells are the shares of the coupling.
use mathlib.Core.Path.{◌≡◌, refl, sym, ap, ap₂, ◌∙◌}
use Prim.Native.Nat.{ℕ, ◌*◌, ◌≤◌, ◌<◌}
use mathlib.Core.Bool.{Bool, true, false, not, ◌&&◌, ◌||◌, true≢false}
use Rattle.std.specs.Result.{is_ok, result_ok}
use Rattle.std.specs.Option.{is_some}
use mathlib.Core.List.{List, ◌++◌, map, append-nil}
use native.Mathlib.Omega.{arith}
use mathlib.Core.Logic.{◌⊎◌, inl, inr}
use native.Mathlib.Nat.{mul-le-mul}
use lib.ListN.{length, get_or, take, drop, length-append, length-drop, length-map, drop_of_length-le}
use lib.Seq.{length-take-le}
use lib.Dec.{leb, eqb}
use lib.Ieee.{Float, binary64, mul, div}
use borrow.Author.Tests.{le-leb, le-ltb, eq-eqb, ne_eqb}
use Rattle.numbers.specs.Real.{nought, sum}
use Rattle.numbers.specs.Lists.{over}
use Rattle.numbers.proofs.Over
use Rattle.numbers.proofs.Over.{over_done}
use Rattle.numbers.proofs.Refuses.{check_skip}
use Rattle.transport_theory.specs.Transport.{Cell, Transport, transport}
use Rattle.transport_theory.specs.Refusal.{short}
use Rattle.transport.specs.Outcome.{Outcome, ends, settled, size_refusal, transport_sized}
use Rattle.std.specs.Prelude.{Result, Ok, Err, Option, Some, None}
use Rattle.numbers.specs.declared.refusal.Refusal.{Refusal}
use Rattle.numbers.specs.Refuse.{numbered}
use Rattle.transport.specs.declared.plan.Plan.{Plan}
use Rattle.epsdelta_theory.specs.Jumps.{Jump, jumps_of}
use Rattle.epsdelta_theory.proofs.RowReads.{jumps_length}
use Rattle.distance_theory.specs.Couplings.{Share, expected, point_mass, shares_of}
use Rattle.distance_theory.proofs.Stored.{shares_front}
use Rattle.distance_theory.specs.declared.lent.Rows.{Rows}
use Rattle.distance_theory.proofs.RowsLent.{PlanCells}
use Rattle.distance_theory.proofs.Bests.{Look, ats, parts, independent_by, best_by, laid, lay_if, Bested, bested, best_if, Beside, Movable, moved_on, places_by, places_length, freely_length, costs_by, fitted_is, moved_is, moved_celled, moved_few, cells_read, places_shares}

-- a list that is written whole, entry after entry
pub written : {A : Type 0} (l d out : List A) (i : ℕ) → out ≡ Over.over l i d → i ≡ length l → length d ≡ length l → out ≡ l
written l d out i e n h = over_done l d out i e n ∙ ap (λ r. l ++ r) (drop_of_length-le d {i = length l} (omega arith)) ∙ append-nil l

abbrev plan_of : Result Plan ℕ → Plan
plan_of (Ok p) = p
plan_of (Err k) = record { total = nought; cells = 0 }

abbrev plan_in : Option Plan → Plan
plan_in (Some p) = p
plan_in None = record { total = nought; cells = 0 }

-- what is there where an answer is taken without its refusal
ok_is : (r : Result Plan Refusal) {o : Option Plan} {p : Plan} → o ≡ result_ok r → o ≡ Some p → r ≡ Ok p
ok_is (Ok q) {o} {p} e f = let g : Option Plan → Result Plan Refusal = λ u. Ok (plan_in u) in ap g (sym e ∙ f)
ok_is (Err k) e f = absurd (true≢false (ap is_some (sym f ∙ e)))

err_is : (r : Result Plan Refusal) {o : Option Plan} → o ≡ result_ok r → o ≡ None → (k : Refusal) × (r ≡ Err k)
err_is (Ok q) e f = absurd (true≢false (ap is_some (sym e ∙ f)))
err_is (Err k) e f = (k, refl)

-- masses that can be moved
module _ {a b costs : List Float} {xs ys : List ℕ} {codes places masses : ℕ} (M : Movable a b costs xs ys codes places masses) where
  size : length a * length b ≡ length xs * length ys
  size = ap₂ ◌*◌ M.left M.right

  enough : (rows columns : ℕ) → rows ≡ 1024 → columns ≡ 1024 → short (length a) (length b) (length costs) rows columns masses ≡ false
  unfolding short
  enough rows columns er ec =
      let s = size in
      let q : length xs * length ys ≤ 32 * 32 = mul-le-mul M.few_left M.few_right in
      let p = M.enough in let h = M.masses_room in
      rw (le-ltb (length costs) (length a * length b) (omega arith), le-ltb rows (length a * length b) (omega arith), le-ltb columns (length a * length b) (omega arith), le-ltb masses (length a * length b) (omega arith))

  few : not (leb (length a) 32 && leb (length b) 32) ≡ false
  few = let p = M.left in let q = M.right in let f = M.few_left in let g = M.few_right in rw (le-leb (length a) 32 (omega arith), le-leb (length b) 32 (omega arith))

  accepted : (rows columns : ℕ) → rows ≡ 1024 → columns ≡ 1024 → size_refusal (length a) (length b) (length costs) rows columns masses ≡ 0
  accepted rows columns er ec = check_skip 7 _ _ 0 (enough rows columns er ec) (check_skip 15 _ 0 0 few refl)

  -- there is room for each cell of the plan, in any work lists of 1,024
  module _ (i₀ j₀ : List ℕ) (x₀ : List Float) (er : length i₀ ≡ 1024) (ec : length j₀ ≡ 1024) (ex : length x₀ ≡ masses) {r : Result Plan Refusal} {i j : List ℕ} {x : List Float}
      (E : ends (numbered r) i j x ≡ transport_sized a b costs i₀ j₀ x₀) (total : Float) (cells : ℕ) (e : r ≡ Ok (record { total = total; cells = cells })) where
    pub has_room_lem : (codes ≤ 4096) × (cells ≤ length i) × (cells ≤ length j) × (cells ≤ places)
    has_room_lem =
        let result = transport a b costs in
        let P : ends (numbered r) i j x ≡ settled 0 result i₀ j₀ x₀ = E ∙ ap (λ (k : ℕ). settled k result i₀ j₀ x₀) (ap (size_refusal (length a) (length b) (length costs) (length i₀) (length j₀)) ex ∙ accepted (length i₀) (length j₀) er ec) in
        let z : cells ≡ length result.plan = sym (ap (λ (s : Result Plan Refusal). (plan_of (numbered s)).cells) e) ∙ ap (λ (o : Outcome). (plan_of o.answer).cells) P in
        let f = moved_few a b costs xs ys codes places masses M in
        let q = M.places_room in
        let u = length-map result.plan (λ (c : Cell). c.row) in
        let w = length-map result.plan (λ (c : Cell). c.column) in
        let n = ap (λ (o : Outcome). length o.rows) P ∙ length-append (map (λ (c : Cell). c.row) result.plan) (drop (length (map (λ (c : Cell). c.row) result.plan)) i₀) in
        let k = ap (λ (o : Outcome). length o.columns) P ∙ length-append (map (λ (c : Cell). c.column) result.plan) (drop (length (map (λ (c : Cell). c.column) result.plan)) j₀) in
        (M.few_codes, omega arith, omega arith, omega arith)

-- masses that are moved with work lists of 1,024 rows and columns
module _ {a b costs : List Float} {xs ys : List ℕ} {codes : ℕ} (p₀ : List ℕ) (x₀ : List Float) (M : Movable a b costs xs ys codes (length p₀) (length x₀)) (i₀ j₀ : List ℕ) (er : length i₀ ≡ 1024) (ec : length j₀ ≡ 1024) where
  abbrev result : Transport
  result = transport a b costs

  module _ (r : Result Plan Refusal) {i j : List ℕ} {x : List Float} (E : ends (numbered r) i j x ≡ transport_sized a b costs i₀ j₀ x₀) where
    planned : ends (numbered r) i j x ≡ settled 0 result i₀ j₀ x₀
    planned = E ∙ ap (λ (k : ℕ). settled k result i₀ j₀ x₀) (accepted M (length i₀) (length j₀) er ec)

    -- there is a plan
    pub some_plan : {o : Option Plan} → o ≡ result_ok r → o ≡ None → ⊥
    some_plan e f = let k = err_is r e f in true≢false (ap is_ok (sym (ap (λ (o : Outcome). o.answer) planned) ∙ ap numbered k.1))

    module _ {o : Option Plan} {p : Plan} (v : o ≡ result_ok r) (f : o ≡ Some p) where
      abbrev cells : ℕ
      cells = p.cells

      plan_is : p ≡ record { total = result.total; cells = length result.plan }
      plan_is = sym (ap (λ (s : Result Plan Refusal). plan_of (numbered s)) (ok_is r v f)) ∙ ap (λ (o : Outcome). plan_of o.answer) planned

      total_is : p.total ≡ result.total
      total_is = ap (λ (q : Plan). q.total) plan_is

      cells_is : cells ≡ length result.plan
      cells_is = ap (λ (q : Plan). q.cells) plan_is

      rows_is : i ≡ over (map (λ (c : Cell). c.row) result.plan) i₀
      rows_is = ap (λ (o : Outcome). o.rows) planned

      columns_is : j ≡ over (map (λ (c : Cell). c.column) result.plan) j₀
      columns_is = ap (λ (o : Outcome). o.columns) planned

      in_rows : (k : ℕ) → k < cells → (get_or i k 0 < length xs) × (get_or j k 0 < length ys)
      in_rows = cells_read (λ p. 0) xs ys result.plan i j i₀ j₀ rows_is columns_is cells cells_is (moved_celled a b costs xs ys codes (length p₀) (length x₀) M)

      pub cells_room : cells ≤ length p₀
      cells_room = let e = cells_is in let f = moved_few a b costs xs ys codes (length p₀) (length x₀) M in let q = M.places_room in omega arith

      -- the list of masses is as long as it was
      pub masses_size : length x ≡ length x₀
      masses_size =
          let u = map (λ (c : Cell). c.mass) result.plan in
          let f = moved_few a b costs xs ys codes (length p₀) (length x₀) M in
          let q = M.masses_room in
          let w = length-map result.plan (λ (c : Cell). c.mass) in
          let d = length-drop (length u) x₀ in
          let n = ap (λ (o : Outcome). length o.masses) planned ∙ length-append u (drop (length u) x₀) in
          omega arith

      -- of the list of places the first are those of the cells
      pub plan_cells : (R : Rows) → R.xs.targets.now ≡ xs → R.ys.targets.now ≡ ys → length R.codes.now ≡ codes → PlanCells R i j (length (take cells p₀))
      plan_cells R ex ey ec =
          let e = cells_is in
          let f = moved_few a b costs xs ys codes (length p₀) (length x₀) M in
          let s : length xs * length ys ≤ 32 * 32 = mul-le-mul M.few_left M.few_right in
          let c = M.few_codes in
          let u = length-map result.plan (λ (c : Cell). c.row) in
          let w = length-map result.plan (λ (c : Cell). c.column) in
          let du = length-drop (length (map (λ (c : Cell). c.row) result.plan)) i₀ in
          let dw = length-drop (length (map (λ (c : Cell). c.column) result.plan)) j₀ in
          let n = ap length rows_is ∙ length-append (map (λ (c : Cell). c.row) result.plan) (drop (length (map (λ (c : Cell). c.row) result.plan)) i₀) in
          let k = ap length columns_is ∙ length-append (map (λ (c : Cell). c.column) result.plan) (drop (length (map (λ (c : Cell). c.column) result.plan)) j₀) in
          let t = length-take-le cells p₀ cells_room in (
            omega arith,
            omega arith,
            omega arith,
            λ q l. let y = in_rows q (omega arith) in (rw ex y.0, rw ey y.1),
          )

      pub places_size : (q : List ℕ) → length q ≡ length (take cells p₀) → length (q ++ drop cells p₀) ≡ length p₀
      places_size q e = let h = cells_room in let a = length-append q (drop cells p₀) in let b = length-drop cells p₀ in let t = length-take-le cells p₀ cells_room in omega arith

      -- its shares
      pub moved_end : (look : Look) (q : List ℕ) → q ≡ places_by look xs ys i j (length (take cells p₀)) → bested p.total cells (q ++ drop cells p₀) x ≡ moved_on look xs ys result p₀ x₀
      moved_end look q eq =
          let l = places_by look xs ys i j in
          let ep : q ++ drop cells p₀ ≡ over (l cells) p₀ = ap₂ (λ (u : List ℕ) (k : ℕ). u ++ drop k p₀) (eq ∙ ap l (length-take-le cells p₀ cells_room)) (sym (places_length look xs ys i j cells)) in
          ap₂ (λ (t : Float) (n : ℕ). bested t n (q ++ drop cells p₀) x) total_is cells_is
          ∙ ap₂ (λ (u : List ℕ) (w : List Float). bested result.total (length result.plan) u w)
          (ep ∙ ap (λ (l : List ℕ). over l p₀) (places_shares look xs ys result.plan i j i₀ j₀ rows_is columns_is cells cells_is)) (ap (λ (o : Outcome). o.masses) planned)

-- ---- rows of several entries

module _ (look : Look) (xs : List ℕ) (ps : List Float) (ys : List ℕ) (qs : List Float) (codes : ℕ) (R : Beside xs ps ys qs codes) where
  abbrev es : List Jump
  es = jumps_of xs ps

  abbrev fs : List Jump
  fs = jumps_of ys qs

  -- costs and masses that were laid
  pub moved_best : (v f c : List Float) → f ≡ map (λ (x : Float). div binary64 (mul binary64 x (sum ps)) (sum qs)) qs → c ≡ costs_by look xs ps ys qs codes R v → (p : List ℕ) (m : List Float) (b : Bested)
      → b ≡ moved_on look xs ys (transport ps f c) p m → b ≡ best_if true (best_by false look v es fs) p m
  moved_best v f c ef ec p m b e = e ∙ moved_is look xs ps ys qs codes R v ps f c refl (ef ∙ sym (fitted_is look xs ps ys qs codes R)) ec p m

  -- ---- a row of one entry

  pub alone_best : (v : List Float) (x : Float) (n : ℕ) (p p₀ : List ℕ) (m m₀ : List Float) → n ≡ length xs * length ys → p ≡ over (ats (independent_by look es fs)) p₀ → m ≡ over (parts (independent_by look es fs)) m₀
      → {j : List ℕ} {w : List Float} → (j ≡ take n p) × (w ≡ take n m) → x ≡ expected v (shares_of j w) → bested x n p m ≡ best_if true (best_by true look v es fs) p₀ m₀
  unfolding best_by
  alone_best v x n p p₀ m m₀ en ep em {j} {w} (ej, ew) ex =
      let cs : List Share = independent_by look es fs in
      let z : n ≡ length cs = en ∙ sym (freely_length look xs ps ys qs codes R) in
      let s : shares_of j w ≡ cs = ap₂ shares_of ej ew ∙ ap₂ (λ (u : List ℕ) (w : List Float). shares_of (take n u) (take n w)) ep em ∙ shares_front cs p₀ m₀ n z in
      ap₂ (λ (y : Float) (k : ℕ). bested y k p m) (ex ∙ ap (expected v) s) z ∙ ap₂ (λ (u : List ℕ) (w : List Float). bested (expected v cs) (length cs) u w) ep em

  -- ---- which of the two

  point : point_mass es fs ≡ (eqb (length xs) 1 || eqb (length ys) 1)
  point = ap₂ (λ (m n : ℕ). eqb m 1 || eqb n 1) (jumps_length xs ps (sym R.left)) (jumps_length ys qs (sym R.right))

  module _ (v : List Float) (p : List ℕ) (m : List Float) (b : Bested) where
    abbrev chosen : Bool → Bested
    chosen t = best_if true (best_by t look v es fs) p m

    pub with_one : (length xs ≡ 1) ⊎ ((length xs ≡ 1 → ⊥) × (length ys ≡ 1)) → b ≡ chosen true → b ≡ chosen (point_mass es fs)
    with_one (inl h) e = e ∙ ap chosen (sym (point ∙ rw (eq-eqb (length xs) 1 h) refl))
    with_one (inr (g, h)) e = e ∙ ap chosen (sym (point ∙ rw (ne_eqb (length xs) 1 g, eq-eqb (length ys) 1 h) refl))

    pub with_left_lem : length xs ≡ 1 → b ≡ chosen true → b ≡ chosen (point_mass es fs)
    with_left_lem h e = with_one (inl h) e

    pub with_several : (length xs ≡ 1 → ⊥) → (length ys ≡ 1 → ⊥) → b ≡ chosen false → b ≡ chosen (point_mass es fs)
    with_several g h e = e ∙ ap chosen (sym (point ∙ rw (ne_eqb (length xs) 1 g, ne_eqb (length ys) 1 h) refl))

-- ---- shares that were laid

pub laid_all : (look : Look) (xs : List ℕ) (ps : List Float) (ys : List ℕ) (qs : List Float) (codes : ℕ) (R : Beside xs ps ys qs codes) (n : ℕ) (p p₀ : List ℕ) (m m₀ : List Float)
    → n ≡ length xs * length ys → p ≡ over (ats (independent_by look (jumps_of xs ps) (jumps_of ys qs))) p₀ → m ≡ over (parts (independent_by look (jumps_of xs ps) (jumps_of ys qs))) m₀
    → laid true n p m ≡ lay_if true (independent_by look (jumps_of xs ps) (jumps_of ys qs)) p₀ m₀
laid_all look xs ps ys qs codes R n p p₀ m m₀ en ep em =
    let cs : List Share = independent_by look (jumps_of xs ps) (jumps_of ys qs) in
    ap (λ (k : ℕ). laid true k p m) (en ∙ sym (freely_length look xs ps ys qs codes R)) ∙ ap₂ (λ (u : List ℕ) (w : List Float). laid true (length cs) u w) ep em
