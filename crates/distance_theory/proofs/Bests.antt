-- Couplings of two rows as the code makes them: the rows side by side in lists, and the pairs looked up in any way.
use mathlib.Core.Path.{◌≡◌, refl, sym, subst, ap, ap₂, ◌∙◌}
use Prim.Native.Nat.{ℕ, ◌≤◌, ◌<◌, ◌+◌, ◌*◌, ◌/◌, ◌%◌}
use mathlib.Core.Bool.{Bool, true, false, not, ◌&&◌}
use mathlib.Core.List.{List, [], ◌∷◌, map}
use native.Mathlib.Omega.{arith}
use native.Mathlib.Nat.{div-lt_iff_lt-mul, mod-lt, mul-le-mul, div-add-mod'}
use lib.Dec.{eqb, leb}
use lib.ListN.{length, get_or, set, length-map, get_or-map, get_or-append}
use lib.Seq.{ext_get_or}
use lib.Ieee.{Float, nan, binary64, mul, div}
use borrow.Author.Tests.{eqb-true, leb-true, not-false}
use Rattle.numbers.specs.Lists.{over, span}
use Rattle.numbers.specs.Real.{nought, sum}
use Rattle.numbers.proofs.Bools.{and_t}
use Rattle.numbers.proofs.Members.{in_at}
use Rattle.numbers.proofs.Spans.{span_length}
use Rattle.numbers.proofs.Over
use Rattle.numbers.proofs.Over.{over_next, over_done}
use Rattle.epsdelta_theory.specs.Jumps.{Jump, jumps_of, targets, rates}
use Rattle.epsdelta_theory.proofs.Rows.{at_map_span}
use Rattle.epsdelta_theory.proofs.RowReads.{no_jump, jumps_length, jumps_targets, jumps_rates}
use Rattle.transport_theory.specs.Transport.{Cell, Transport, transport}
use Rattle.transport_theory.proofs.Networks.{columns_some}
use Rattle.distance_theory.specs.Pairs.{Pair, pair, place, cross, target_pair}
use Rattle.distance_theory.specs.Couplings.{Share, share, expected, independent, Best, fitted, point_mass, best_of}
use Rattle.std.specs.Prelude.{Option, Some, None}
use Rattle.distance_theory.specs.declared.lent.Best.{Best as Chosen}
use Rattle.distance_theory.proofs.Crossings.{map_at, cross_length, cross_at}
use Rattle.distance_theory.proofs.Store.{Celled, transport_celled, transport_length}
use Rattle.distance_theory.proofs.Turns.{share_at}

-- ---- shares in two lists

abbrev pub ats : List Share → List ℕ
ats cs = map (λ (c : Share). c.at) cs

abbrev pub parts : List Share → List Float
parts cs = map (λ (c : Share). c.mass) cs

-- ---- by any look-up of a pair

abbrev pub Look : Type 0
Look = Pair → ℕ

unfoldable pub independent_by : Look → List Jump → List Jump → List Share
unfolding cross mul
independent_by look es fs = cross (λ e f. share (look (target_pair e f)) (mul binary64 e.rate f.rate)) es fs

unfoldable pub values_by : Look → List Float → List Jump → List Jump → List Float
unfolding cross
values_by look v es fs = cross (λ e f. get_or v (look (target_pair e f)) nan) es fs

abbrev pub planned_by : Look → List Jump → List Jump → Cell → Share
planned_by look es fs c = share (look (pair (get_or (targets es) c.row 0) (get_or (targets fs) c.column 0))) c.mass

unfoldable pub best_by : Bool → Look → List Float → List Jump → List Jump → Best
unfolding independent_by expected transport fitted values_by
best_by true look v es fs = let cs = independent_by look es fs in record { value = expected v cs; coupling = cs }
best_by false look v es fs =
    let t = transport (rates es) (fitted es fs) (values_by look v es fs) in
    record { value = t.total; coupling = map (planned_by look es fs) t.plan }

-- by the place among the pairs that were found they are those of the definition
pub independent_by_lem : (found : List Pair) (es fs : List Jump) → independent_by (λ p. place p found) es fs ≡ independent found es fs
unfolding independent_by independent
independent_by_lem found es fs = refl

pub best_by_lem : (b : Bool) (found : List Pair) (v : List Float) (es fs : List Jump) → best_by b (λ p. place p found) v es fs ≡ best_of b found v es fs
unfolding best_by best_of
best_by_lem true found v es fs = refl
best_by_lem false found v es fs = refl

-- ---- what the code answers

-- at most 32 entries a row, a probability for each, and few enough codes that a number of a pair fits
abbrev pub rows_fit : ℕ → ℕ → ℕ → ℕ → ℕ → Bool
rows_fit xs ps ys qs codes = eqb ps xs && (eqb qs ys && (leb xs 32 && (leb ys 32 && leb codes 4096)))

abbrev pub cells_fit : ℕ → ℕ → ℕ → ℕ → Bool
cells_fit m n places masses = leb (m * n) places && leb (m * n) masses

-- were the shares laid, how many, and the lists then
pub record Laid : Type 0 where
  pub done : Bool
  pub cells : ℕ
  pub places : List ℕ
  pub masses : List Float

abbrev pub laid : Bool → ℕ → List ℕ → List Float → Laid
laid b n p m = record { done = b; cells = n; places = p; masses = m }

-- of what is answered: how many, or none
abbrev pub laid_as : Option ℕ → List ℕ → List Float → Laid
laid_as (Some n) p m = laid true n p m
laid_as None p m = laid false 0 p m

pub laid_some : {r : Option ℕ} {n : ℕ} {p : List ℕ} {m : List Float} {R : Laid} → r ≡ Some n → laid_as r p m ≡ R → laid true n p m ≡ R
laid_some {r} {n} {p} {m} {R} h e = sym (ap (λ (o : Option ℕ). laid_as o p m) h) ∙ e

pub laid_none : {r : Option ℕ} {p : List ℕ} {m : List Float} {R : Laid} → r ≡ None → laid_as r p m ≡ R → laid false 0 p m ≡ R
laid_none {r} {p} {m} {R} h e = sym (ap (λ (o : Option ℕ). laid_as o p m) h) ∙ e

abbrev pub lay_if : Bool → List Share → List ℕ → List Float → Laid
lay_if true cs p m = laid true (length cs) (over (ats cs) p) (over (parts cs) m)
lay_if false cs p m = laid false 0 p m

-- the value, the number of shares, and the lists then
pub record Bested : Type 0 where
  pub value : Float
  pub cells : ℕ
  pub places : List ℕ
  pub masses : List Float

abbrev pub bested : Float → ℕ → List ℕ → List Float → Bested
bested x n p m = record { value = x; cells = n; places = p; masses = m }

abbrev pub bested_as : Option Chosen → List ℕ → List Float → Bested
bested_as (Some b) p m = bested b.value b.cells p m
bested_as None p m = bested nought 0 p m

abbrev pub best_if : Bool → Best → List ℕ → List Float → Bested
best_if true b p m = bested b.value (length b.coupling) (over (ats b.coupling) p) (over (parts b.coupling) m)
best_if false b p m = bested nought 0 p m

-- both: targets and probabilities of two rows, codes, and the two lists
abbrev pub fitting : ℕ → ℕ → ℕ → ℕ → ℕ → ℕ → ℕ → Bool
fitting xs ps ys qs codes places masses = rows_fit xs ps ys qs codes && cells_fit xs ys places masses

module _ (look : Look) (xs : List ℕ) (ps : List Float) (ys : List ℕ) (qs : List Float) (codes : ℕ) (places : List ℕ) (masses : List Float) where
  abbrev all_fits : Bool
  all_fits = fitting (length xs) (length ps) (length ys) (length qs) codes (length places) (length masses)

  -- the independent coupling of two rows over the front of two lists; where these do not fit they stay as they are
  abbrev pub lay_on : Laid
  lay_on = lay_if all_fits (independent_by look (jumps_of xs ps) (jumps_of ys qs)) places masses

  -- the cheapest one
  abbrev pub best_on : List Float → Bested
  best_on v = best_if all_fits (best_by (point_mass (jumps_of xs ps) (jumps_of ys qs)) look v (jumps_of xs ps) (jumps_of ys qs)) places masses

pub cells_room : (m n places masses : ℕ) (w : Bool) → w ≡ cells_fit m n places masses → not w ≡ false → (m * n ≤ places) × (m * n ≤ masses)
cells_room m n places masses w f k = let (a, b) = and_t (leb (m * n) places) _ (sym f ∙ not-false w k) in (leb-true (m * n) places a, leb-true (m * n) masses b)

-- ---- words of private contracts

-- rows side by side
pub record Beside (xs : List ℕ) (ps : List Float) (ys : List ℕ) (qs : List Float) (codes : ℕ) : Type 0 where
  pub left : length ps ≡ length xs
  pub right : length qs ≡ length ys
  pub few_left : length xs ≤ 32
  pub few_right : length ys ≤ 32
  pub few_codes : codes ≤ 4096

pub beside : (xs : List ℕ) (ps : List Float) (ys : List ℕ) (qs : List Float) (codes : ℕ) (u : Bool) → u ≡ rows_fit (length xs) (length ps) (length ys) (length qs) codes → not u ≡ false → Beside xs ps ys qs codes
beside xs ps ys qs codes u e h =
    let (a₁, r₁) = and_t (eqb (length ps) (length xs)) _ (sym e ∙ not-false u h) in
    let (a₂, r₂) = and_t (eqb (length qs) (length ys)) _ r₁ in
    let (a₃, r₃) = and_t (leb (length xs) 32) _ r₂ in
    let (a₄, a₅) = and_t (leb (length ys) 32) _ r₃ in
    record {
      left = eqb-true (length ps) (length xs) a₁;
      right = eqb-true (length qs) (length ys) a₂;
      few_left = leb-true (length xs) 32 a₃;
      few_right = leb-true (length ys) 32 a₄;
      few_codes = leb-true codes 4096 a₅;
    }

-- masses, costs and rows of at most 32 entries, and room for a share of each cell
pub record Movable (a b costs : List Float) (xs ys : List ℕ) (codes places masses : ℕ) : Type 0 where
  pub left : length a ≡ length xs
  pub right : length b ≡ length ys
  pub enough : length costs ≡ length xs * length ys
  pub few_left : length xs ≤ 32
  pub few_right : length ys ≤ 32
  pub few_codes : codes ≤ 4096
  pub places_room : length xs * length ys ≤ places
  pub masses_room : length xs * length ys ≤ masses

-- a cell of a plan between the targets xs and ys
abbrev pub cell_share : Look → List ℕ → List ℕ → Cell → Share
cell_share look xs ys c = share (look (pair (get_or xs c.row 0) (get_or ys c.column 0))) c.mass

-- what a transport comes to, its shares over the front of two lists
abbrev pub moved_on : Look → List ℕ → List ℕ → Transport → List ℕ → List Float → Bested
moved_on look xs ys t p m = bested t.total (length t.plan) (over (ats (map (cell_share look xs ys) t.plan)) p) (over (map (λ (c : Cell). c.mass) t.plan) m)

-- the places of the pairs of count cells
abbrev pub places_by : Look → List ℕ → List ℕ → List ℕ → List ℕ → ℕ → List ℕ
places_by look xs ys rows columns count = map (λ (i : ℕ). look (pair (get_or xs (get_or rows i 0) 0) (get_or ys (get_or columns i 0) 0))) (span 0 count)

pub places_length : (look : Look) (xs ys rows columns : List ℕ) (count : ℕ) → length (places_by look xs ys rows columns count) ≡ count
places_length look xs ys rows columns count = length-map (span 0 count) (λ (i : ℕ). look (pair (get_or xs (get_or rows i 0) 0) (get_or ys (get_or columns i 0) 0))) ∙ span_length 0 count

pub places_at : (look : Look) (xs ys rows columns : List ℕ) (count i : ℕ) → i < count → get_or (places_by look xs ys rows columns count) i 0 ≡ look (pair (get_or xs (get_or rows i 0) 0) (get_or ys (get_or columns i 0) 0))
places_at look xs ys rows columns count i h =
    let f : ℕ → ℕ = λ (i : ℕ). look (pair (get_or xs (get_or rows i 0) 0) (get_or ys (get_or columns i 0) 0)) in
    at_map_span f 0 count i 0 h ∙ ap f (let e : 0 + i ≡ i = omega arith in e)

-- what stands past the last cell of a plan
abbrev no_cell : Cell
no_cell = record { row = 0; column = 0; mass = nan }

-- cell k of m × n is in a row and in a column
pub cell_row : (m n k : ℕ) → k < m * n → k / n < m
cell_row m n k h = (div-lt_iff_lt-mul (columns_some m n k h)).1 h

pub cell_column : (m n k : ℕ) → k < m * n → k % n < n
cell_column m n k h = mod-lt k (columns_some m n k h)

module _ {A : Type 0} (f : Jump → Jump → A) (es fs : List Jump) (k : ℕ) (z : A) (h : k < length es * length fs) where
  cell_of : get_or (cross f es fs) k z ≡ f (get_or es (k / length fs) no_jump) (get_or fs (k % length fs) no_jump)
  cell_of =
      ap (λ (n : ℕ). get_or (cross f es fs) n z) (sym (div-add-mod' k (length fs)))
      ∙ cross_at f es fs (k / length fs) (k % length fs) z no_jump (cell_row (length es) (length fs) k h) (cell_column (length es) (length fs) k h)

-- entry k of a row in two lists
jump_target : (T : List ℕ) (P : List Float) (k : ℕ) → length P ≡ length T → (get_or (jumps_of T P) k no_jump).target ≡ get_or T k 0
jump_target T P k e = sym (get_or-map (λ (j : Jump). j.target) (jumps_of T P) k no_jump) ∙ ap (λ (l : List ℕ). get_or l k 0) (jumps_targets T P (sym e))

jump_rate : (T : List ℕ) (P : List Float) (k : ℕ) → length P ≡ length T → (get_or (jumps_of T P) k no_jump).rate ≡ get_or P k nan
jump_rate T P k e = sym (get_or-map (λ (j : Jump). j.rate) (jumps_of T P) k no_jump) ∙ ap (λ (l : List Float). get_or l k nan) (jumps_rates T P (sym e))

module _ (look : Look) (xs : List ℕ) (ps : List Float) (ys : List ℕ) (qs : List Float) (codes : ℕ) (R : Beside xs ps ys qs codes) where
  left_length : length (jumps_of xs ps) ≡ length xs
  left_length = jumps_length xs ps (sym R.left)

  right_length : length (jumps_of ys qs) ≡ length ys
  right_length = jumps_length ys qs (sym R.right)

  cells_are : length (jumps_of xs ps) * length (jumps_of ys qs) ≡ length xs * length ys
  cells_are = ap₂ ◌*◌ left_length right_length

  pub cells_few : length xs * length ys ≤ 1024
  cells_few = mul-le-mul R.few_left R.few_right

  -- the pair of cell k, and its two probabilities
  abbrev pub cell_pair : ℕ → Pair
  cell_pair k = pair (get_or xs (k / length ys) 0) (get_or ys (k % length ys) 0)

  cell_pair_is : (k : ℕ) → target_pair (get_or (jumps_of xs ps) (k / length (jumps_of ys qs)) no_jump) (get_or (jumps_of ys qs) (k % length (jumps_of ys qs)) no_jump) ≡ cell_pair k
  cell_pair_is k =
      ap (λ (n : ℕ). target_pair (get_or (jumps_of xs ps) (k / n) no_jump) (get_or (jumps_of ys qs) (k % n) no_jump)) right_length
      ∙ ap₂ pair (jump_target xs ps (k / length ys) R.left) (jump_target ys qs (k % length ys) R.right)

  cell_rates : (k : ℕ) → mul binary64 (get_or (jumps_of xs ps) (k / length (jumps_of ys qs)) no_jump).rate (get_or (jumps_of ys qs) (k % length (jumps_of ys qs)) no_jump).rate ≡ mul binary64 (get_or ps (k / length ys) nan) (get_or qs (k % length ys) nan)
  cell_rates k =
      ap (λ (n : ℕ). mul binary64 (get_or (jumps_of xs ps) (k / n) no_jump).rate (get_or (jumps_of ys qs) (k % n) no_jump).rate) right_length
      ∙ ap₂ (mul binary64) (jump_rate xs ps (k / length ys) R.left) (jump_rate ys qs (k % length ys) R.right)

  -- ---- the independent coupling

  abbrev pub freely : List Share
  freely = independent_by look (jumps_of xs ps) (jumps_of ys qs)

  pub freely_length : length freely ≡ length xs * length ys
  unfolding independent_by
  freely_length = cross_length _ (jumps_of xs ps) (jumps_of ys qs) ∙ cells_are

  freely_at : (k : ℕ) → k < length xs * length ys → share_at freely k ≡ share (look (cell_pair k)) (mul binary64 (get_or ps (k / length ys) nan) (get_or qs (k % length ys) nan))
  unfolding independent_by
  freely_at k h = cell_of _ (jumps_of xs ps) (jumps_of ys qs) k (share 0 nan) (let e = cells_are in omega arith) ∙ ap₂ share (ap look (cell_pair_is k)) (cell_rates k)

  pub freely_place : (k : ℕ) → k < length xs * length ys → get_or (ats freely) k 0 ≡ look (cell_pair k)
  freely_place k h = map_at (λ (c : Share). c.at) freely k 0 (share 0 nan) (let e = freely_length in omega arith) ∙ ap (λ (c : Share). c.at) (freely_at k h)

  pub freely_mass : (k : ℕ) → k < length xs * length ys → get_or (parts freely) k nan ≡ mul binary64 (get_or ps (k / length ys) nan) (get_or qs (k % length ys) nan)
  freely_mass k h = map_at (λ (c : Share). c.mass) freely k nan (share 0 nan) (let e = freely_length in omega arith) ∙ ap (λ (c : Share). c.mass) (freely_at k h)

  -- ---- the costs and masses of the transport

  abbrev pub costs_by : List Float → List Float
  costs_by v = values_by look v (jumps_of xs ps) (jumps_of ys qs)

  pub costs_length : (v : List Float) → length (costs_by v) ≡ length xs * length ys
  unfolding values_by
  costs_length v = cross_length _ (jumps_of xs ps) (jumps_of ys qs) ∙ cells_are

  pub costs_at : (v : List Float) (k : ℕ) → k < length xs * length ys → get_or (costs_by v) k nan ≡ get_or v (look (cell_pair k)) nan
  unfolding values_by
  costs_at v k h = cell_of _ (jumps_of xs ps) (jumps_of ys qs) k nan (let e = cells_are in omega arith) ∙ ap (λ (p : Pair). get_or v (look p) nan) (cell_pair_is k)

  -- x × ta, then / tb
  pub fitted_is : fitted (jumps_of xs ps) (jumps_of ys qs) ≡ map (λ (x : Float). div binary64 (mul binary64 x (sum ps)) (sum qs)) qs
  unfolding fitted
  fitted_is = rw (jumps_rates xs ps (sym R.left), jumps_rates ys qs (sym R.right))

  -- ---- the cells of the plan

  abbrev pub plan_by : List Float → Transport
  plan_by v = transport (rates (jumps_of xs ps)) (fitted (jumps_of xs ps) (jumps_of ys qs)) (costs_by v)

  abbrev pub coupling_by : List Cell → List Share
  coupling_by cs = map (planned_by look (jumps_of xs ps) (jumps_of ys qs)) cs

  coupling_shares : (cs : List Cell) → coupling_by cs ≡ map (cell_share look xs ys) cs
  coupling_shares [] = refl
  coupling_shares (c ∷ cs) = ap₂ (λ (s : Share) (l : List Share). s ∷ l)
      (ap₂ (λ (u w : List ℕ). cell_share look u w c) (jumps_targets xs ps (sym R.left)) (jumps_targets ys qs (sym R.right))) (coupling_shares cs)

  coupling_masses : (cs : List Cell) → parts (coupling_by cs) ≡ map (λ (c : Cell). c.mass) cs
  coupling_masses [] = refl
  coupling_masses (c ∷ cs) = ap (λ (l : List Float). c.mass ∷ l) (coupling_masses cs)

  best_moved : (v : List Float) → best_by false look v (jumps_of xs ps) (jumps_of ys qs) ≡ record { value = (plan_by v).total; coupling = coupling_by (plan_by v).plan }
  unfolding best_by
  best_moved v = refl

  moved_shares : (t : Transport) (p : List ℕ) (m : List Float) → moved_on look xs ys t p m ≡ best_if true (record { value = t.total; coupling = coupling_by t.plan }) p m
  moved_shares t p m =
      let n : length t.plan ≡ length (coupling_by t.plan) = sym (length-map t.plan (planned_by look (jumps_of xs ps) (jumps_of ys qs))) in
      let s : map (cell_share look xs ys) t.plan ≡ coupling_by t.plan = sym (coupling_shares t.plan) in
      let w : map (λ (c : Cell). c.mass) t.plan ≡ parts (coupling_by t.plan) = sym (coupling_masses t.plan) in
      ap (λ (k : ℕ). bested t.total k (over (ats (map (cell_share look xs ys) t.plan)) p) (over (map (λ (c : Cell). c.mass) t.plan) m)) n
      ∙ ap₂ (λ (cs : List Share) (ms : List Float). bested t.total (length (coupling_by t.plan)) (over (ats cs) p) (over ms m)) s w

  -- the cheapest coupling is that of the transport
  pub moved_is : (v a b costs : List Float) → a ≡ ps → b ≡ fitted (jumps_of xs ps) (jumps_of ys qs) → costs ≡ costs_by v → (p : List ℕ) (m : List Float)
      → moved_on look xs ys (transport a b costs) p m ≡ best_if true (best_by false look v (jumps_of xs ps) (jumps_of ys qs)) p m
  moved_is v a b costs ea eb ec p m =
      let t : transport a b costs ≡ plan_by v = ap (λ (x : List Float). transport x b costs) (ea ∙ sym (jumps_rates xs ps (sym R.left))) ∙ ap₂ (transport (rates (jumps_of xs ps))) eb ec in
      ap (λ (x : Transport). moved_on look xs ys x p m) t ∙ moved_shares (plan_by v) p m ∙ ap (λ (x : Best). best_if true x p m) (sym (best_moved v))

-- ---- the plan of a transport

module _ (a b costs : List Float) (xs ys : List ℕ) (codes places masses : ℕ) (M : Movable a b costs xs ys codes places masses) where
  pub moved_celled : Celled (length xs) (length ys) (transport a b costs).plan
  moved_celled =
      subst (λ (m : ℕ). Celled m (length ys) (transport a b costs).plan) M.left
      (subst (λ (n : ℕ). Celled (length a) n (transport a b costs).plan) M.right (transport_celled a b costs))

  pub moved_few : length (transport a b costs).plan ≤ length xs * length ys
  moved_few = let h = transport_length a b costs in let e = ap₂ ◌*◌ M.left M.right in omega arith

-- the rows and columns of a plan over the front of two lists, read one by one
module _ (look : Look) (xs ys : List ℕ) (cs : List Cell) (rows columns r₀ c₀ : List ℕ) (er : rows ≡ over (map (λ (c : Cell). c.row) cs) r₀) (ec : columns ≡ over (map (λ (c : Cell). c.column) cs) c₀) where
  read_row : (i : ℕ) → i < length cs → get_or rows i 0 ≡ (get_or cs i no_cell).row
  read_row i h =
      let n = length-map cs (λ (c : Cell). c.row) in
      ap (λ (l : List ℕ). get_or l i 0) er ∙ get_or-append (map (λ (c : Cell). c.row) cs) _ 0 i (omega arith) ∙ map_at (λ (c : Cell). c.row) cs i 0 no_cell h

  read_column : (i : ℕ) → i < length cs → get_or columns i 0 ≡ (get_or cs i no_cell).column
  read_column i h =
      let n = length-map cs (λ (c : Cell). c.column) in
      ap (λ (l : List ℕ). get_or l i 0) ec ∙ get_or-append (map (λ (c : Cell). c.column) cs) _ 0 i (omega arith) ∙ map_at (λ (c : Cell). c.column) cs i 0 no_cell h

  pub cells_read : (count : ℕ) → count ≡ length cs → Celled (length xs) (length ys) cs → (i : ℕ) → i < count → (get_or rows i 0 < length xs) × (get_or columns i 0 < length ys)
  cells_read count e w i h =
      let k : i < length cs = omega arith in
      let z = w (get_or cs i no_cell) (in_at cs i no_cell k) in
      let p = z.0 in let q = z.1 in let u = read_row i k in let v = read_column i k in (omega arith, omega arith)

  pub places_shares : (count : ℕ) → count ≡ length cs → places_by look xs ys rows columns count ≡ ats (map (cell_share look xs ys) cs)
  places_shares count e =
      let l = places_length look xs ys rows columns count in
      let m = length-map (map (cell_share look xs ys) cs) (λ (c : Share). c.at) in
      let n = length-map cs (cell_share look xs ys) in
      ext_get_or 0 (places_by look xs ys rows columns count) (ats (map (cell_share look xs ys) cs)) (omega arith)
      (λ i h. let k : i < length cs = omega arith in
      places_at look xs ys rows columns count i (omega arith)
      ∙ ap₂ (λ (u w : ℕ). look (pair (get_or xs u 0) (get_or ys w 0))) (read_row i k) (read_column i k)
      ∙ sym (map_at (λ (c : Share). c.at) (map (cell_share look xs ys) cs) i 0 (share 0 nan) (omega arith) ∙ ap (λ (c : Share). c.at) (map_at (cell_share look xs ys) cs i (share 0 nan) no_cell k)))

-- ---- shares laid over the front of two lists

-- the first k of them
pub record Laying (cs : List Share) (p₀ : List ℕ) (m₀ : List Float) (k : ℕ) (p : List ℕ) (m : List Float) : Type 0 where
  pub places_are : p ≡ Over.over (ats cs) k p₀
  pub masses_are : m ≡ Over.over (parts cs) k m₀

pub laying_start : (cs : List Share) (p : List ℕ) (m : List Float) → Laying cs p m 0 p m
laying_start cs p m = record { places_are = refl; masses_are = refl }

module _ {cs : List Share} {p₀ : List ℕ} {m₀ : List Float} {k : ℕ} {p : List ℕ} {m : List Float} (L : Laying cs p₀ m₀ k p m) where
  pub laying_next : (j : ℕ) (x : Float) → j ≡ get_or (ats cs) k 0 → x ≡ get_or (parts cs) k nan → k < length cs → length cs ≤ length p₀ → length cs ≤ length m₀ → Laying cs p₀ m₀ (k + 1) (set p k j) (set m k x)
  laying_next j x ej ex h a b =
      let u = length-map cs (λ (c : Share). c.at) in let w = length-map cs (λ (c : Share). c.mass) in
      record {
        places_are = over_next (ats cs) p₀ p k 0 j L.places_are ej (omega arith) (omega arith);
        masses_are = over_next (parts cs) m₀ m k nan x L.masses_are ex (omega arith) (omega arith);
      }

  pub laying_done : k ≡ length cs → (p ≡ over (ats cs) p₀) × (m ≡ over (parts cs) m₀)
  laying_done e = (
    over_done (ats cs) p₀ p k L.places_are (e ∙ sym (length-map cs (λ (c : Share). c.at))),
    over_done (parts cs) m₀ m k L.masses_are (e ∙ sym (length-map cs (λ (c : Share). c.mass))),
  )
