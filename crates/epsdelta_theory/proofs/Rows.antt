-- The rows of two accepted models side by side: rates and their sum, divided rates from 0 to 2^40, at most 31 jumps, to states of the union.
-- By induction over a state's edges (its rates), then over its rates (their sum, and each divided by it).
use mathlib.Core.Path.{◌≡◌, refl, sym, subst, subst⁻¹, ap, ◌∙◌}
use Prim.Native.Nat.{ℕ, zero, suc, ◌≤◌, ◌<◌, ◌+◌, ◌-◌}
use mathlib.Core.Bool.{Bool, true, false}
use mathlib.Core.Logic.{◌⊎◌, inl, inr}
use mathlib.Core.List.{List, [], ◌∷◌, ◌++◌, map}
use native.Mathlib.Omega.{arith}
use lib.Dec.{T, eqb, ltb}
use lib.ListN.{length, get_or, length-append, length-map, get_or-append, get_or-map}
use lib.Seq.{get_or-append-add}
use lib.Ieee.{Float, binary64, add, le}
use lib.Ieee.Positive.{positive, le_trans_positive}
use Rattle.numbers.specs.Lists.{span, In}
use Rattle.numbers.specs.Real.{nought, sum_from, sum}
use Rattle.numbers.proofs.Bools.{t_of, lt_or_ge}
use Rattle.numbers.proofs.Floats.{Sized}
use Rattle.numbers.proofs.Spans.{span_length}
use Rattle.bisim_core.specs.Data.{Edge, Columns}
use Rattle.bisim_core.specs.Ids.{distinct}
use Rattle.bisim_core.specs.Edges.{others}
use Rattle.bisim_core.specs.declared.wlts.Shape.{Shape}
use Rattle.bisim_core.specs.Model.{begins, edge_at, model}
use Rattle.bisim_core.specs.Model as models
use Rattle.bisim_core.proofs.Accepted.{Accepted, begins_in}
use Rattle.epsdelta_theory.specs.Jumps.{Jump, add_here, add_rate, add_edge, add_edges, targets, rates, divided, Row, row, union, no_row}
use Rattle.epsdelta_theory.proofs.FlowTests.{AllInRange}
use Rattle.epsdelta_theory.proofs.Rates.{Rate, Weight, weight_rate, join_rate, Summed, summed_add, summed_over, divided_not_negative, divided_low}
use Rattle.epsdelta_theory.proofs.Targets.{Rising, EdgeTo, From, edges_rising, edges_only, edges_few, divided_targets}

-- ---- the edges of a state

-- an edge of state s in an accepted model of n states
pub record EdgeOf (s n : ℕ) (e : Edge) : Type 0 where
  pub source : e.source ≡ s
  pub target : e.target < n
  pub weight : Weight e.weight

abbrev pub EdgesOf : ℕ → ℕ → List Edge → Type 0
EdgesOf s n [] = Unit {0}
EdgesOf s n (e ∷ es) = EdgeOf s n e × EdgesOf s n es

sources : (s n : ℕ) (es : List Edge) → EdgesOf s n es → From s es
sources s n [] f = tt
sources s n (e ∷ es) (f, fs) = (f.source, sources s n es fs)

edge_inside : (s n off x : ℕ) (es : List Edge) → EdgesOf s n es → EdgeTo off x es → x < off + n
edge_inside s n off x (e ∷ es) (f, fs) (inl (m, p)) = let h = f.target in omega arith
edge_inside s n off x (e ∷ es) (f, fs) (inr m) = edge_inside s n off x es fs m
edge_inside s n off x [] _ x4 = elim x4 [ ]

-- ---- its rates

abbrev Rates : List Jump → Type 0
Rates [] = Unit {0}
Rates (j ∷ js) = Rate j.rate × Rates js

here_rates : (b : Bool) (t : ℕ) (w : Float) (j : Jump) (js : List Jump) → Weight w → Rates (j ∷ js) → Rates (add_here b t w j js)
unfolding add_here
here_rates true t w j js p (q, a) = (join_rate j.rate w q p, a)
here_rates false t w j js p a = (weight_rate w p, a)

rate_rates : (t : ℕ) (w : Float) (js : List Jump) → Weight w → Rates js → Rates (add_rate t w js)
unfolding add_rate
rate_rates t w [] p a = (weight_rate w p, tt)
rate_rates t w (j ∷ js) p (q, a) = pick (rate_rates t w js p a) (ltb j.target t)
  where
    pick : Rates (add_rate t w js) → (b : Bool) → Rates (elim b as (λ z. List Jump) [ true ↦ j ∷ add_rate t w js | false ↦ add_here (eqb j.target t) t w j js ])
    pick r true = (q, r)
    pick r false = here_rates (eqb j.target t) t w j js p (q, a)

edge_rates : (b : Bool) (off : ℕ) (e : Edge) (js : List Jump) → Weight e.weight → Rates js → Rates (add_edge b off e js)
unfolding add_edge
edge_rates true off e js p a = a
edge_rates false off e js p a = rate_rates (off + e.target) e.weight js p a

edges_rates : (s n off : ℕ) (es : List Edge) (js : List Jump) → EdgesOf s n es → Rates js → Rates (add_edges off es js)
unfolding add_edges
edges_rates s n off [] js f a = a
edges_rates s n off (e ∷ es) js (f, fs) a =
    edges_rates s n off es (add_edge (eqb e.target e.source) off e js) fs (edge_rates (eqb e.target e.source) off e js f.weight a)

-- ---- their sum

sum_summed : (js : List Jump) (x : Float) → Summed x → Rates js → Summed (sum_from x (rates js))
unfolding sum_from
sum_summed [] x s a = s
sum_summed (j ∷ js) x s (r, a) = sum_summed js (add binary64 x j.rate) (inr (summed_add x j.rate s r).0) a

sum_over : (js : List Jump) (x b : Float) → T (positive b) → Sized 200 x → T (le b x) → Rates js → T (le b (sum_from x (rates js)))
unfolding sum_from
sum_over [] x b p s h a = h
sum_over (j ∷ js) x b p s h (q, a) =
    let z : Sized 200 (add binary64 x j.rate) = (summed_add x j.rate (inr s) q).0 in
    sum_over js (add binary64 x j.rate) b p z (le_trans_positive b x (add binary64 x j.rate) p s.0 z.0 h (summed_over x j.rate s q)) a

-- the base of each rate is not above x
abbrev Over : Float → (js : List Jump) → Rates js → Type 0
Over x [] a = Unit {0}
Over x (j ∷ js) (r, a) = T (le r.base x) × Over x js a

sum_each : (js : List Jump) (x : Float) → Summed x → (a : Rates js) → Over (sum_from x (rates js)) js a
unfolding sum_from
sum_each [] x s a = tt
sum_each (j ∷ js) x s (r, a) =
    let z = summed_add x j.rate s r in
    (sum_over js (add binary64 x j.rate) r.base r.base_positive z.0 z.1 a, sum_each js (add binary64 x j.rate) (inr z.0) a)

divided_in_range : (x : Float) (js : List Jump) → Summed x → (a : Rates js) → Over x js a → AllInRange (map (divided x) js)
divided_in_range x [] s a u = tt
divided_in_range x (j ∷ js) s (r, a) (h, u) = ((divided_not_negative j.rate x r s h, divided_low j.rate x r s h), divided_in_range x js s a u)

-- ---- rows

-- what the sweeps ask of a row whose jumps go to n states
pub record RowOf (n : ℕ) (r : Row) : Type 0 where
  pub in_range : AllInRange r.prob
  pub few : length r.prob ≤ 31
  pub summed : Summed r.exit
  pub rising : Rising (targets r.prob)
  pub inside : (x : ℕ) → In x (targets r.prob) → x < n

pub row_of : (m n off s : ℕ) (es : List Edge) → off + n ≤ m → EdgesOf s n es → length (distinct (others s es)) ≤ 31 → RowOf m (row off es)
unfolding row sum
row_of m n off s es w f l =
    let js : List Jump = add_edges off es [] in
    let a : Rates js = edges_rates s n off es [] f tt in
    let x : Float = sum_from nought (rates js) in
    record {
      in_range = divided_in_range x js (sum_summed js nought (inl refl) a) a (sum_each js nought (inl refl) a);
      few = rw (length-map js (divided x)) (let k = edges_few off s es (sources s n es f) in omega arith);
      summed = sum_summed js nought (inl refl) a;
      rising = subst⁻¹ Rising (divided_targets x js) (edges_rising off es [] tt);
      inside = λ y i. pick y (edges_only y off es [] (subst (In y) (divided_targets x js) i));
    }
  where
    pick : (y : ℕ) → EdgeTo off y es ⊎ In y [] → y < m
    pick y (inl t) = let h = edge_inside s n off y es f t in omega arith
    pick y (inr x') = elim x' [ ]

-- ---- the union

pub at_map_span : {A : Type 0} (f : ℕ → A) (i n j : ℕ) (d : A) → j < n → get_or (map f (span i n)) j d ≡ f (i + j)
unfolding span
at_map_span f i zero j d h = absurd (omega arith)
at_map_span f i (suc n) zero d h = ap f (omega arith)
at_map_span f i (suc n) (suc j) d h = at_map_span f (suc i) n j d (omega arith) ∙ ap f (omega arith)

pub model_length : (S : Shape) (M : Columns) → length (model S M) ≡ S.states
unfolding model
model_length S M = length-map (span 0 S.states) (models.row M) ∙ span_length 0 S.states

pub model_at : (S : Shape) (M : Columns) (s : ℕ) → s < S.states → get_or (model S M) s [] ≡ models.row M s
unfolding model
model_at S M s h = at_map_span (models.row M) 0 S.states s [] h ∙ ap (models.row M) (omega arith)

pub union_length : (L R : List (List Edge)) → length (union L R) ≡ length L + length R
unfolding union
union_length L R = length-append (map (row 0) L) (map (row (length L)) R) ∙ rw (length-map L (row 0), length-map R (row (length L)))

no_row_lem : (off : ℕ) → row off [] ≡ no_row
unfolding row add_edges
no_row_lem off = refl

row_at : (off : ℕ) (M : List (List Edge)) (i : ℕ) → get_or (map (row off) M) i no_row ≡ row off (get_or M i [])
row_at off M i = ap (get_or (map (row off) M) i) (sym (no_row_lem off)) ∙ get_or-map (row off) M i []

pub union_left : (L R : List (List Edge)) (s : ℕ) → s < length L → get_or (union L R) s no_row ≡ row 0 (get_or L s [])
unfolding union
union_left L R s h = get_or-append (map (row 0) L) (map (row (length L)) R) no_row s (rw (length-map L (row 0)) h) ∙ row_at 0 L s

pub union_right : (L R : List (List Edge)) (t : ℕ) → get_or (union L R) (length L + t) no_row ≡ row (length L) (get_or R t [])
unfolding union
union_right L R t =
    ap (λ (x : ℕ). get_or (map (row 0) L ++ map (row (length L)) R) (x + t) no_row) (sym (length-map L (row 0)))
    ∙ get_or-append-add (map (row 0) L) (map (row (length L)) R) t no_row
    ∙ row_at (length L) R t

-- ---- the rows of an accepted model

module _ {S : Shape} {M : Columns} (A : Accepted S M) where
  edges_of_lem : (s k i : ℕ) → i + k ≤ S.edges → EdgesOf s S.states (map (edge_at M s) (span i k))
  unfolding span
  edges_of_lem s zero i h = tt
  edges_of_lem s (suc k) i h = (
    record { source = refl; target = A.target_low i (omega arith); weight = record { least = t_of (A.weight_least i (omega arith)); most = t_of (A.weight_greatest i (omega arith)) } },
    edges_of_lem s k (suc i) (omega arith),
  )

  pub row_edges : (s : ℕ) → s < S.states → EdgesOf s S.states (models.row M s)
  unfolding models.row
  row_edges s h =
      let a = A.begins_rise s h in
      let b = begins_in A (s + 1) (omega arith) in
      edges_of_lem s (begins M (s + 1) - begins M s) (begins M s) (omega arith)

  pub model_row : (m off s : ℕ) → off + S.states ≤ m → s < S.states → RowOf m (row off (get_or (model S M) s []))
  model_row m off s w h = subst⁻¹ (λ (es : List Edge). RowOf m (row off es)) (model_at S M s h) (row_of m S.states off s (models.row M s) w (row_edges s h) (A.others_few s h))

pub union_rows : {SL SR : Shape} {ML MR : Columns} → Accepted SL ML → Accepted SR MR → (s : ℕ) → s < SL.states + SR.states
    → RowOf (SL.states + SR.states) (get_or (union (model SL ML) (model SR MR)) s no_row)
union_rows {SL} {SR} {ML} {MR} A B s h = pick (lt_or_ge s SL.states)
  where
    n : length (model SL ML) ≡ SL.states
    n = model_length SL ML

    pick : (s < SL.states) ⊎ (SL.states ≤ s) → RowOf (SL.states + SR.states) (get_or (union (model SL ML) (model SR MR)) s no_row)
    pick (inl l) =
        subst⁻¹ (RowOf (SL.states + SR.states)) (union_left (model SL ML) (model SR MR) s (rw n l))
        (model_row A (SL.states + SR.states) 0 s (omega arith) l)
    pick (inr l) =
        let t = s - SL.states in
        let e : SL.states + t ≡ s = omega arith in
        let k : t < SR.states = omega arith in
        subst (λ (x : ℕ). RowOf (SL.states + SR.states) (get_or (union (model SL ML) (model SR MR)) x no_row)) (ap (λ (y : ℕ). y + t) n ∙ e)
        (subst⁻¹ (RowOf (SL.states + SR.states)) (union_right (model SL ML) (model SR MR) t)
        (model_row B (SL.states + SR.states) (length (model SL ML)) t (rw n (omega arith)) k))
