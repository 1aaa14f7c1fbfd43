-- What the improvement of one pair leaves, and the turns of the loop over all pairs.
use Rattle.distance_theory.specs.declared.lent.Best.{Best as Chosen}
use mathlib.Core.Path.{◌≡◌, refl, sym, subst, ap, ap₂, ◌∙◌}
use Prim.Native.Nat.{ℕ, suc, ◌+◌, ◌*◌, ◌-◌, ◌≤◌, ◌<◌}
use mathlib.Core.Bool.{Bool, true, false, not, ◌&&◌, ◌||◌}
use mathlib.Core.List.{List, ◌++◌}
use native.Mathlib.Omega.{arith}
use native.Mathlib.Numerals.{add-one}
use lib.Dec.{leb}
use lib.ListN.{length, get_or, set, take, drop, length-map, length-set}
use lib.Seq.{take_at, drop-drop, length-take-le}
use borrow.Rule.Slice.PartMut.{put_mid, Post-is}
use lib.Ieee.{Float, nan, binary64, add, sub, mul, lt}
use borrow.Author.Tests.{leb-true, le-leb, lt-leb, not-true, not-false}
use Rattle.numbers.specs.Real.{nought, eps}
use Rattle.numbers.specs.Choice.{larger, apart}
use Rattle.numbers.specs.Lists.{over}
use Rattle.numbers.proofs.Bools.{and_t, and_first, and_second}
use Rattle.epsdelta_theory.specs.Jumps.{Jump, jumps_of, rates}
use Rattle.epsdelta_theory.proofs.RowReads.{jumps_length}
use Rattle.chain_theory.specs.Columns.{ChainColumns, row_targets, row_rates, reads_row}
use Rattle.chain_theory.specs.Lent.{of_chain}
use Rattle.distance_theory.specs.declared.lent.Task.{Task as Given}
use Rattle.transport_theory.specs.Transport.{transport}
use Rattle.distance_theory.specs.Pairs.{target_pair}
use Rattle.distance_theory.specs.Couplings.{Share, share, expected, Best, fitted, point_mass, shares_of}
use Rattle.distance_theory.specs.Lent.{Reads, Couples, HasPair}
use Rattle.distance_theory.specs.declared.lent.Store.{Store}
use Rattle.distance_theory.specs.declared.lent.StoreMut.{StoreMut}
use Rattle.distance_theory.specs.declared.lent.Shares.{Shares}
use Rattle.distance_theory.proofs.Index.{look_up}
use Rattle.distance_theory.proofs.Crossings.{cross_length}
use Rattle.distance_theory.proofs.Held.{coupling}
use Rattle.distance_theory.proofs.Store.{rates_length, fitted_length, transport_length}
use Rattle.distance_theory.proofs.Bests.{Look, ats, parts, independent_by, values_by, planned_by, best_by, rows_fit, cells_fit, fitting, Bested, bested, best_if, beside, cells_few}
use Rattle.distance_theory.proofs.PairRows.{bested_when, best_pair, best_pair_of}
use Rattle.distance_words.proofs.Improving.{best_when, best_at, Adopted, adopted, gains, room_for, adopt_if, adopt, Bettered, bettered, better_from, best_in, counted, better_if}

-- ---- a coupling for a pair

-- a part that is written over
put_is : {A : Type 0} (a n : ℕ) (l u : List A) → n ≡ length u → put_mid a (a + n - a) l u ≡ take a l ++ over u (drop a l)
put_is {A} a n l u e = ap (λ (z : List A). take a l ++ (u ++ z)) (Post-is a (a + n) l (omega arith) ∙ sym (drop-drop n a l) ∙ ap (λ (j : ℕ). drop j (drop a l)) e)

-- shares that come to x, where the coupling of pair k, as it is read, comes to y
module _ (x : Float) (P : Shares) (v : List Float) (k : ℕ) (s : List ℕ) (S : StoreMut) (R : Store) (r : Reads s S R) (C : Shares) (q : Couples R k C) (y : Float) (yy : y ≡ expected v (shares_of C.places.now C.masses.now)) where
  abbrev js : List ℕ
  js = P.places.now

  abbrev ms : List Float
  ms = P.masses.now

  abbrev l : List ℕ
  l = S.lengths.now

  abbrev p : List ℕ
  p = S.places.now

  abbrev m : List Float
  m = S.masses.now

  abbrev f : ℕ
  f = get_or s k 0

  abbrev gain : Bool
  gain = gains x v k s l p m

  abbrev roomy : Bool
  roomy = room_for (get_or s k 0 + length js) (length p) (length m)

  abbrev adopting : Bool → Adopted
  adopting b = adopt_if b k (get_or s k 0) js ms l p m

  current_is : y ≡ expected v (coupling s l p m k)
  current_is = let (es, el, ep, em) = r in let (a, b) = q in yy ∙ rw (a, b, es, el, ep, em)

  gain_is : lt x (sub binary64 y eps) ≡ gain
  gain_is = ap (λ (z : Float). lt x (sub binary64 z eps)) current_is

  pub no_gain : lt x (sub binary64 y eps) ≡ false → adopted false l p m ≡ adopt x js ms v k s l p m
  no_gain h = let e : gain ≡ false = sym gain_is ∙ h in ap adopting (sym e ∙ and_first _ _ e)

  module _ (g : lt x (sub binary64 y eps) ≡ true) where
    pub no_places : length p < f + length js → adopted false l p m ≡ adopt x js ms v k s l p m
    no_places h = let e = lt-leb (get_or s k 0 + length js) (length p) (omega arith) in ap adopting (and_second gain roomy false (sym gain_is ∙ g) (sym e ∙ and_first _ _ e))

    module _ (hp : f + length js ≤ length p) where
      pub no_masses : length m < f + length js → adopted false l p m ≡ adopt x js ms v k s l p m
      no_masses h = ap adopting (and_second gain roomy false (sym gain_is ∙ g) (and_second _ _ _ (le-leb (get_or s k 0 + length js) (length p) (omega arith)) (sym (lt-leb (get_or s k 0 + length js) (length m) (omega arith)))))

      pub adopts : f + length js ≤ length m → length ms ≡ length js → (u : List ℕ) (w : List Float) → u ≡ js → w ≡ ms
          → adopted true (set l k (length js)) (put_mid f (f + length js - f) p u) (put_mid f (f + length js - f) m w) ≡ adopt x js ms v k s l p m
      adopts hm z u w eu ew =
          ap₂ (λ (a : List ℕ) (b : List Float). adopted true (set l k (length js)) (put_mid f (f + length js - f) p a) (put_mid f (f + length js - f) m b)) eu ew
          ∙ ap₂ (λ (a : List ℕ) (b : List Float). adopted true (set l k (length js)) a b) (put_is f (length js) p js refl) (put_is f (length js) m ms (sym z))
          ∙ ap adopting (and_second gain roomy true (sym gain_is ∙ g) (and_second _ _ _ (le-leb (get_or s k 0 + length js) (length p) (omega arith)) (sym (le-leb (get_or s k 0 + length js) (length m) (omega arith)))))

-- as many lengths as before
pub adopt_size : {b : Bool} {l' p' : List ℕ} {m' : List Float} (x : Float) (js : List ℕ) (ms v : List Float) (k : ℕ) (s l p : List ℕ) (m : List Float) → adopted b l' p' m' ≡ adopt x js ms v k s l p m → length l' ≡ length l
adopt_size x js ms v k s l p m e = ap (λ (r : Adopted). length r.lengths) e ∙ pick (gains x v k s l p m && room_for (get_or s k 0 + length js) (length p) (length m))
  where
    pick : (b : Bool) → length (adopt_if b k (get_or s k 0) js ms l p m).lengths ≡ length l
    pick true = length-set l k (length js)
    pick false = refl

-- ---- the cheapest coupling in two work lists

by_length : (t : Bool) (look : Look) (v : List Float) (es fs : List Jump) → length (best_by t look v es fs).coupling ≤ length es * length fs
unfolding best_by independent_by
by_length true look v es fs = let a = cross_length (λ (e f : Jump). share (look (target_pair e f)) (mul binary64 e.rate f.rate)) es fs in omega arith
by_length false look v es fs =
    let t = transport (rates es) (fitted es fs) (values_by look v es fs) in
    let a = length-map t.plan (planned_by look es fs) in
    let b = transport_length (rates es) (fitted es fs) (values_by look v es fs) in
    let c : length (rates es) * length (fitted es fs) ≡ length es * length fs = ap₂ ◌*◌ (rates_length es) (fitted_length es fs) in
    omega arith

-- the front of the work lists is the coupling
pub record Worked (b : Best) (x : Float) (n : ℕ) (js : List ℕ) (ms : List Float) : Type 0 where
  pub value_is : x ≡ b.value
  pub few : n ≤ 1024
  pub places_are : take n js ≡ ats b.coupling
  pub masses_are : take n ms ≡ parts b.coupling

work_if : (b : Bool) (B : Best) (p : List ℕ) (m : List Float) → length (best_when b B).coupling ≤ 1024 → Worked (best_when b B) (best_if b B p m).value (best_if b B p m).cells (best_if b B p m).places (best_if b B p m).masses
work_if true B p m h = record {
  value_is = refl;
  few = h;
  places_are = take_at (ats B.coupling) _ (length B.coupling) (length-map B.coupling (λ (c : Share). c.at));
  masses_are = take_at (parts B.coupling) _ (length B.coupling) (length-map B.coupling (λ (c : Share). c.mass));
}
work_if false B p m h = record { value_is = refl; few = omega arith; places_are = refl; masses_are = refl }

module _ (look : Look) (C D : ChainColumns) (codes : ℕ) (v : List Float) (x y : ℕ) (p : List ℕ) (m : List Float) (zp : length p ≡ 1024) (zm : length m ≡ 1024) where
  abbrev xs : List ℕ
  xs = row_targets C x

  abbrev ps : List Float
  ps = row_rates C x

  abbrev ys : List ℕ
  ys = row_targets D y

  abbrev qs : List Float
  qs = row_rates D y

  abbrev whole : Best
  whole = best_by (point_mass (jumps_of xs ps) (jumps_of ys qs)) look v (jumps_of xs ps) (jumps_of ys qs)

  abbrev reads : Bool
  reads = reads_row C x && reads_row D y

  abbrev rows : Bool
  rows = rows_fit (length xs) (length ps) (length ys) (length qs) codes

  -- rows that fit have room
  fit_is : fitting (length xs) (length ps) (length ys) (length qs) codes (length p) (length m) ≡ rows
  fit_is = pick rows refl
    where
      pick : (b : Bool) → rows ≡ b → (rows && cells_fit (length xs) (length ys) (length p) (length m)) ≡ rows
      pick false e = sym (and_first rows _ e)
      pick true e =
          let B = beside xs ps ys qs codes true (sym e) refl in
          let c = cells_few look xs ps ys qs codes B in
          sym (and_second rows _ rows e (e ∙ sym (ap₂ ◌&&◌ (le-leb (length xs * length ys) (length p) (omega arith)) (le-leb (length xs * length ys) (length m) (omega arith)))))

  joined : (b c : Bool) → bested_when b (best_if c whole p m) p m ≡ best_if (b && c) whole p m
  joined true c = refl
  joined false c = refl

  pair_is : best_pair look C D codes x y v p m ≡ best_if (reads && rows) whole p m
  pair_is = ap (λ (c : Bool). bested_when reads (best_if c whole p m) p m) fit_is ∙ joined reads rows

  few_shares : length (best_when (reads && rows) whole).coupling ≤ 1024
  few_shares = pick (reads && rows) refl
    where
      pick : (b : Bool) → (reads && rows) ≡ b → length (best_when b whole).coupling ≤ 1024
      pick false e = omega arith
      pick true e =
          let B = beside xs ps ys qs codes true (sym (and_t reads rows e).1) refl in
          let c = cells_few look xs ps ys qs codes B in
          let l = by_length (point_mass (jumps_of xs ps) (jumps_of ys qs)) look v (jumps_of xs ps) (jumps_of ys qs) in
          let a : length (jumps_of xs ps) * length (jumps_of ys qs) ≡ length xs * length ys = ap₂ ◌*◌ (jumps_length xs ps (sym B.left)) (jumps_length ys qs (sym B.right)) in
          omega arith

  pub worked : (z : Float) (n : ℕ) (js : List ℕ) (ms : List Float) → bested z n js ms ≡ best_pair look C D codes x y v p m → Worked (best_at look C D codes v x y) z n js ms
  worked z n js ms e =
      let q : best_if (reads && rows) whole p m ≡ bested z n js ms = sym (e ∙ pair_is) in
      subst (λ (r : Bested). Worked (best_at look C D codes v x y) r.value r.cells r.places r.masses) q (work_if (reads && rows) whole p m few_shares)

-- of pair k, one of the first n of a task, by what `best_pair` answers in work lists of 1,024 entries
pub worked_in : (T : Given) (v : List Float) (k : ℕ) {n : ℕ} → k < n → n ≤ length T.pairs.lefts.now → n ≤ length T.pairs.rights.now → (p : List ℕ) (m : List Float) → length p ≡ 1024 → length m ≡ 1024
    → (b : Chosen) {js : List ℕ} {ms : List Float} → (HasPair T k → bested b.value b.cells js ms ≡ best_pair_of T k v p m) → Worked (best_in T v k) b.value b.cells js ms
worked_in T v k {n} h hl hr p m zp zm b {js} {ms} d =
    worked (look_up T.pairs.codes.now) (of_chain T.left) (of_chain T.right) (length T.pairs.codes.now) v (get_or T.pairs.lefts.now k 0) (get_or T.pairs.rights.now k 0) p m zp zm b.value b.cells js ms (d (omega arith, omega arith))

-- as many places as masses, few of them
pub work_cut : {B : Best} {x : Float} {n : ℕ} {js : List ℕ} {ms : List Float} → Worked B x n js ms → length js ≡ 1024 → length ms ≡ 1024 → {p : List ℕ} {m : List Float} → (p ≡ take n js) × (m ≡ take n ms) → (length m ≡ length p) × (length p ≤ 1024)
work_cut {B} {x} {n} {js} {ms} W hj hm {p} {m} (ep, em) =
    let f = W.few in
    let a = ap length ep ∙ length-take-le n js (omega arith) in
    let b = ap length em ∙ length-take-le n ms (omega arith) in
    (omega arith, omega arith)

-- ---- the loop: at pair k of n

pub record Betters (best : ℕ → Best) (v : List Float) (γ : Float) (cost : List Float) (s : List ℕ) (n : ℕ) (l₀ p₀ : List ℕ) (m₀ : List Float) (k : ℕ) (x : Float) (t : Bool) (l p : List ℕ) (m : List Float) : Type 0 where
  pub left : k ≤ n
  pub lengths_size : length l ≡ length l₀
  pub comes : better_from best v γ cost s (n - k) k x t l p m ≡ better_from best v γ cost s n 0 nought false l₀ p₀ m₀

pub betters_start : (best : ℕ → Best) (v : List Float) (γ : Float) (cost : List Float) (s : List ℕ) (n : ℕ) (l p : List ℕ) (m : List Float) → Betters best v γ cost s n l p m 0 nought false l p m
betters_start best v γ cost s n l p m = record { left = omega arith; lengths_size = refl; comes = ap (λ (j : ℕ). better_from best v γ cost s j 0 nought false l p m) (let e : n - 0 ≡ n = omega arith in e) }

module _ {best : ℕ → Best} {v : List Float} {γ : Float} {cost : List Float} {s : List ℕ} {n : ℕ} {l₀ p₀ : List ℕ} {m₀ : List Float} {k : ℕ} {x : Float} {t : Bool} {l p : List ℕ} {m : List Float} (B : Betters best v γ cost s n l₀ p₀ m₀ k x t l p m) where
  pub betters_end : n ≤ k → bettered x t l p m ≡ better_from best v γ cost s n 0 nought false l₀ p₀ m₀
  unfolding better_from
  betters_end h = ap (λ (j : ℕ). better_from best v γ cost s j k x t l p m) (let b = B.left in let e : 0 ≡ n - k = omega arith in e) ∙ B.comes

  abbrev told : Best → Adopted → Bettered
  told b r = better_from best v γ cost s (n - (k + 1)) (suc k) (larger x (apart (add binary64 (get_or cost k nan) (mul binary64 γ b.value)) (get_or v k nan))) (r.done || t) r.lengths r.places r.masses

  abbrev given : Best → Adopted
  given b = adopt b.value (ats b.coupling) (parts b.coupling) v k s l p m

  opened : better_from best v γ cost s (suc (n - (k + 1))) k x t l p m ≡ told (best k) (given (best k))
  unfolding better_from
  opened = refl

  pub betters_next : k < n → {z : Float} {c : ℕ} {js : List ℕ} {ms : List Float} → Worked (best k) z c js ms
      → {x' d : Float} → d ≡ apart (add binary64 (get_or cost k nan) (mul binary64 γ z)) (get_or v k nan) → x' ≡ larger x d
      → {b : Bool} {l' p' : List ℕ} {m' : List Float} → adopted b l' p' m' ≡ adopt z (take c js) (take c ms) v k s l p m → length l' ≡ length l
      → {t' : Bool} → t' ≡ (b || t)
      → Betters best v γ cost s n l₀ p₀ m₀ (k + 1) x' t' l' p' m'
  betters_next h {z} {c} {js} {ms} W {x'} {d} ed ex {b} {l'} {p'} {m'} ea zl {t'} et =
      let a : adopted b l' p' m' ≡ given (best k) = ea ∙ (λ i. adopt (W.value_is i) (W.places_are i) (W.masses_are i) v k s l p m) in
      let y : x' ≡ larger x (apart (add binary64 (get_or cost k nan) (mul binary64 γ (best k).value)) (get_or v k nan)) = ex ∙ ap (larger x) (ed ∙ ap (λ (u : Float). apart (add binary64 (get_or cost k nan) (mul binary64 γ u)) (get_or v k nan)) W.value_is) in
      record {
        left = omega arith;
        lengths_size = zl ∙ B.lengths_size;
        comes =
            ap₂ (λ (u : Float) (w : Bool). better_from best v γ cost s (n - (k + 1)) (k + 1) u w l' p' m') y et
            ∙ ap (λ (j : ℕ). better_from best v γ cost s (n - (k + 1)) j (larger x (apart (add binary64 (get_or cost k nan) (mul binary64 γ (best k).value)) (get_or v k nan))) (b || t) l' p' m') (add-one k)
            ∙ ap (told (best k)) a ∙ sym opened
            ∙ ap (λ (j : ℕ). better_from best v γ cost s j k x t l p m) (let e : suc (n - (k + 1)) ≡ n - k = omega arith in e) ∙ B.comes;
      }

-- ---- the check of the counts: n pairs and m values, for a task's pairs and what is lent

module _ (T : Given) (s : List ℕ) (S : StoreMut) (n m : ℕ) where
  abbrev enough : Bool
  enough = counted n (length T.pairs.lefts.now) (length T.pairs.rights.now) m (length T.cost.now) (length s) (length S.lengths.now)

  module _ (b : Bool) (e : b ≡ enough) where
    pub counts_known : not b ≡ false → (n ≤ length T.pairs.lefts.now) × (n ≤ length T.pairs.rights.now) × (n ≤ m) × (n ≤ length T.cost.now) × (n ≤ length s) × (n ≤ length S.lengths.now)
    counts_known h =
        let (a₁, r₁) = and_t (leb n (length T.pairs.lefts.now)) _ (sym e ∙ not-false b h) in
        let (a₂, r₂) = and_t (leb n (length T.pairs.rights.now)) _ r₁ in
        let (a₃, r₃) = and_t (leb n m) _ r₂ in
        let (a₄, r₄) = and_t (leb n (length T.cost.now)) _ r₃ in
        let (a₅, a₆) = and_t (leb n (length s)) _ r₄ in
        (leb-true n _ a₁, leb-true n _ a₂, leb-true n _ a₃, leb-true n _ a₄, leb-true n _ a₅, leb-true n _ a₆)

    pub uncounted : not b ≡ true → (r : Bettered) → bettered nought false S.lengths.now S.places.now S.masses.now ≡ better_if enough r S.lengths.now S.places.now S.masses.now
    uncounted h r = ap (λ (t : Bool). better_if t r S.lengths.now S.places.now S.masses.now) (sym (not-true b h) ∙ e)

    pub counting : not b ≡ false → (f r : Bettered) → f ≡ r → f ≡ better_if enough r S.lengths.now S.places.now S.masses.now
    counting h f r q = q ∙ ap (λ (t : Bool). better_if t r S.lengths.now S.places.now S.masses.now) (sym (not-false b h) ∙ e)
