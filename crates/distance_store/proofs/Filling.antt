-- One turn of the loop that fills the store, and its end.
use mathlib.Core.Path.{◌≡◌, refl, sym, ap, ap₂, ◌∙◌}
use Prim.Native.Nat.{ℕ, suc, ◌+◌, ◌*◌, ◌-◌, ◌≤◌, ◌<◌}
use mathlib.Core.Bool.{Bool, true, false, not, ◌&&◌}
use mathlib.Core.List.{List, [], ◌∷◌, ◌++◌}
use native.Mathlib.Omega.{arith}
use native.Mathlib.Numerals.{add-one}
use lib.Dec.{leb}
use Rattle.std.specs.Prelude.{Option, Some, None, Result, Ok, Err}
use Rattle.std.specs.Result.{IsErrAnd, is_ok}
use Rattle.std.proofs.lemmas.Bool.{lt-leb}
use lib.ListN.{length, get_or, set, take, drop, length-set, take-append-drop}
use lib.Ieee.{Float}
use borrow.Author.Tests.{leb-true, le-leb, not-true, not-false}
use Rattle.numbers.specs.Lists.{all}
use Rattle.numbers.proofs.Bools.{and_t}
use Rattle.parts.proofs.Lent.{part, back, part_length, part_all, back_is, back_length}
use Rattle.chain_theory.specs.Columns.{ChainColumns}
use Rattle.chain_theory.specs.Lent.{of_chain}
use Rattle.distance_theory.specs.Pairs.{most}
use Rattle.distance_theory.proofs.Longs.{all_one, all_more}
use Rattle.distance_theory.proofs.Index.{look_up}
use Rattle.distance_theory.specs.Lent.{HasPair}
use Rattle.distance_theory.specs.declared.lent.Task.{Task}
use Rattle.distance_theory.proofs.Bests.{Laid, laid, laid_as, laid_some, laid_none}
use Rattle.distance_theory.proofs.PairRows.{lay_pair, lay_pair_of, part_fits, part_kept}
use Rattle.distance_words.proofs.Store.{Filled, filled, Laying, fill_from, laying_of, laying_in, counted, fill_if}

-- what ends in a refusal
pub refused : {A E : Type 0} (r : Result A E) (P : E → Type 0) → IsErrAnd r P → {s l p : List ℕ} {m : List Float} {W : Filled} → filled false s l p m ≡ W → filled (is_ok r) s l p m ≡ W
refused (Ok x) P h e = absurd h
refused (Err x) P h e = e

-- ---- any laying

module _ (lay : Laying) (j k at : ℕ) (s l p : List ℕ) (m : List Float) (R : Laid) (e : R ≡ lay k (drop at p) (drop at m)) where
  abbrev onward : Laid → Filled
  onward r = elim r.done as (λ z. Filled) [ true ↦ fill_from lay j (suc k) (at + r.cells) (set s k at) (set l k r.cells) (take at p ++ r.places) (take at m ++ r.masses) | false ↦ filled false s l p m ]

  opened : fill_from lay (suc j) k at s l p m ≡ onward R
  unfolding fill_from
  opened = ap onward (sym e)

  pub fill_more : R.done ≡ true → fill_from lay j (suc k) (at + R.cells) (set s k at) (set l k R.cells) (take at p ++ R.places) (take at m ++ R.masses) ≡ fill_from lay (suc j) k at s l p m
  fill_more d =
      sym (opened ∙ ap (λ (b : Bool). elim b as (λ z. Filled) [ true ↦ fill_from lay j (suc k) (at + R.cells) (set s k at) (set l k R.cells) (take at p ++ R.places) (take at m ++ R.masses) | false ↦ filled false s l p m ]) d)

  pub fill_none : R.done ≡ false → filled false s l p m ≡ fill_from lay (suc j) k at s l p m
  fill_none d =
      sym (opened ∙ ap (λ (b : Bool). elim b as (λ z. Filled) [ true ↦ fill_from lay j (suc k) (at + R.cells) (set s k at) (set l k R.cells) (take at p ++ R.places) (take at m ++ R.masses) | false ↦ filled false s l p m ]) d)

pub fill_zero : (lay : Laying) (k at : ℕ) (s l p : List ℕ) (m : List Float) → fill_from lay 0 k at s l p m ≡ filled true s l p m
unfolding fill_from
fill_zero lay k at s l p m = refl

-- ---- the loop: at pair k of n, at place `at`

pub record Fills (lay : Laying) (n : ℕ) (s₀ l₀ p₀ : List ℕ) (m₀ : List Float) (k at : ℕ) (s l p : List ℕ) (m : List Float) : Type 0 where
  pub left : k ≤ n
  pub few : at ≤ 1024 * k
  pub in_places : at ≤ length p
  pub in_masses : at ≤ length m
  pub starts_size : length s ≡ length s₀
  pub lengths_size : length l ≡ length l₀
  pub places_size : length p ≡ length p₀
  pub masses_size : length m ≡ length m₀
  pub comes : fill_from lay (n - k) k at s l p m ≡ fill_from lay n 0 0 s₀ l₀ p₀ m₀

pub fills_start : (lay : Laying) (n : ℕ) (s l p : List ℕ) (m : List Float) → Fills lay n s l p m 0 0 s l p m
fills_start lay n s l p m = record { left = omega arith; few = omega arith; in_places = omega arith; in_masses = omega arith; starts_size = refl; lengths_size = refl; places_size = refl; masses_size = refl; comes = ap (λ (j : ℕ). fill_from lay j 0 0 s l p m) (let e : n - 0 ≡ n = omega arith in e) }

pub fills_end : {lay : Laying} {n : ℕ} {s₀ l₀ p₀ : List ℕ} {m₀ : List Float} {k at : ℕ} {s l p : List ℕ} {m : List Float} → Fills lay n s₀ l₀ p₀ m₀ k at s l p m → n ≤ k → filled true s l p m ≡ fill_from lay n 0 0 s₀ l₀ p₀ m₀
fills_end {lay} {n} {k = k} {at = at} {s = s} {l = l} {p = p} {m = m} F h =
    sym (fill_zero lay k at s l p m) ∙ ap (λ (j : ℕ). fill_from lay j k at s l p m) (let e : 0 ≡ n - k = omega arith in e) ∙ F.comes

-- the pairs of some lists, the places left of two lists lent for each
module _ (lefts rights codes : List ℕ) (C D : ChainColumns) {n : ℕ} {s₀ l₀ p₀ : List ℕ} {m₀ : List Float} {k at : ℕ} {s l p : List ℕ} {m : List Float}
    (F : Fills (laying_of lefts rights codes C D) n s₀ l₀ p₀ m₀ k at s l p m) (h : k < n) (x y : ℕ) (ex : x ≡ get_or lefts k 0) (ey : y ≡ get_or rights k 0)
    (d : Bool) (n' : ℕ) (p' : List ℕ) (m' : List Float) (E : laid d n' p' m' ≡ lay_pair (look_up codes) C D (length codes) x y (part at p) (part at m)) where
  abbrev lay : Laying
  lay = laying_of lefts rights codes C D

  abbrev R : Laid
  R = laid d n' p' m'

  is_part : R ≡ lay k (drop at p) (drop at m)
  is_part =
      E ∙ ap₂ (λ (u w : ℕ). lay_pair (look_up codes) C D (length codes) u w (part at p) (part at m)) ex ey
      ∙ ap₂ (λ (u : List ℕ) (w : List Float). lay k u w) (part_all at p) (part_all at m)

  one_more : n - k ≡ suc (n - (k + 1))
  one_more = omega arith

  -- it was laid: how long it is
  cells_in : not d ≡ false → (n' ≤ 1024) × (at + n' ≤ length p) × (at + n' ≤ length m)
  cells_in t =
      let (a, b, c) = part_fits (look_up codes) C D (length codes) x y (part at p) (part at m) R E (not-false d t) in
      let u = part_length at p in let w = part_length at m in let i = F.in_places in let j = F.in_masses in
      (a, omega arith, omega arith)

  fills_next : not d ≡ false → length p' ≡ length (part at p) → length m' ≡ length (part at m) → Fills lay n s₀ l₀ p₀ m₀ (k + 1) (at + n') (set s k at) (set l k n') (back at p p') (back at m m')
  fills_next t zp zm =
      let (a, b, c) = cells_in t in
      let q = F.in_places in let r = F.in_masses in
      let o = F.few in
      let sp : length (back at p p') ≡ length p = back_length at p p' q zp in
      let sm : length (back at m m') ≡ length m = back_length at m m' r zm in
      record {
        left = omega arith;
        few = omega arith;
        in_places = omega arith;
        in_masses = omega arith;
        starts_size = length-set s k at ∙ F.starts_size;
        lengths_size = length-set l k n' ∙ F.lengths_size;
        places_size = sp ∙ F.places_size;
        masses_size = sm ∙ F.masses_size;
        comes =
            ap₂ (λ (u : List ℕ) (w : List Float). fill_from lay (n - (k + 1)) (k + 1) (at + n') (set s k at) (set l k n') u w) (back_is at p p' q) (back_is at m m' r)
            ∙ ap (λ (v : ℕ). fill_from lay (n - (k + 1)) v (at + n') (set s k at) (set l k n') (take at p ++ p') (take at m ++ m')) (add-one k)
            ∙ fill_more lay (n - (k + 1)) k at s l p m R is_part (not-false d t)
            ∙ ap (λ (v : ℕ). fill_from lay v k at s l p m) (sym one_more) ∙ F.comes;
      }

  -- it was not
  fills_stop : not d ≡ true → filled false s l (back at p p') (back at m m') ≡ fill_from lay n 0 0 s₀ l₀ p₀ m₀
  fills_stop t =
      let (a, b) = part_kept (look_up codes) C D (length codes) x y (part at p) (part at m) R E (not-true d t) in
      ap₂ (λ (u : List ℕ) (w : List Float). filled false s l u w)
      (back_is at p p' F.in_places ∙ ap (λ (u : List ℕ). take at p ++ u) (a ∙ part_all at p) ∙ take-append-drop at p)
      (back_is at m m' F.in_masses ∙ ap (λ (u : List Float). take at m ++ u) (b ∙ part_all at m) ∙ take-append-drop at m)
      ∙ fill_none lay (n - (k + 1)) k at s l p m R is_part (not-true d t) ∙ ap (λ (v : ℕ). fill_from lay v k at s l p m) (sym one_more) ∙ F.comes

-- the same by what `lay_pair` answers for pair k of a task
module _ (T : Task) {s₀ l₀ p₀ : List ℕ} {m₀ : List Float} {k at : ℕ} {s l p : List ℕ} {m : List Float}
    (F : Fills (laying_in T) (length T.pairs.lefts.now) s₀ l₀ p₀ m₀ k at s l p m) (h : k < length T.pairs.lefts.now) (b : length T.pairs.lefts.now ≤ length T.pairs.rights.now)
    (o : Option ℕ) (p' : List ℕ) (m' : List Float) (L : HasPair T k → laid_as o p' m' ≡ lay_pair_of T k (part at p) (part at m)) where
  answer : laid_as o p' m' ≡ lay_pair_of T k (part at p) (part at m)
  answer = L (h, omega arith)

  module _ {n' : ℕ} (e : o ≡ Some n') where
    pub cells_here : (n' ≤ 1024) × (at + n' ≤ length p) × (at + n' ≤ length m)
    cells_here = cells_in T.pairs.lefts.now T.pairs.rights.now T.pairs.codes.now (of_chain T.left) (of_chain T.right) F h _ _ refl refl true n' p' m' (laid_some e answer) refl

    pub fills_on : length p' ≡ length (part at p) → length m' ≡ length (part at m) → Fills (laying_in T) (length T.pairs.lefts.now) s₀ l₀ p₀ m₀ (k + 1) (at + n') (set s k at) (set l k n') (back at p p') (back at m m')
    fills_on = fills_next T.pairs.lefts.now T.pairs.rights.now T.pairs.codes.now (of_chain T.left) (of_chain T.right) F h _ _ refl refl true n' p' m' (laid_some e answer) refl

  pub fills_ended : o ≡ None → filled false s l (back at p p') (back at m m') ≡ fill_from (laying_in T) (length T.pairs.lefts.now) 0 0 s₀ l₀ p₀ m₀
  fills_ended e = fills_stop T.pairs.lefts.now T.pairs.rights.now T.pairs.codes.now (of_chain T.left) (of_chain T.right) F h _ _ refl refl false 0 p' m' (laid_none e answer) refl

-- ---- the check of the counts

pub counted_is : (n rights starts lengths : ℕ) → n ≤ 4096 → all (leb n) (rights ∷ starts ∷ lengths ∷ []) ≡ counted n n rights starts lengths
counted_is n rights starts lengths h =
    all_more (leb n) rights (starts ∷ lengths ∷ []) (leb n starts && leb n lengths) (all_more (leb n) starts (lengths ∷ []) (leb n lengths) (all_one (leb n) lengths))
    ∙ ap₂ (λ (a b : Bool). a && (b && (leb n rights && (leb n starts && leb n lengths)))) (sym (le-leb n most h)) (sym (le-leb n n (omega arith)))

-- too many
pub counted_not : (n rights starts lengths : ℕ) → 4096 < n → false ≡ counted n n rights starts lengths
counted_not n rights starts lengths h = ap (λ (b : Bool). b && (leb n n && (leb n rights && (leb n starts && leb n lengths)))) (sym (lt-leb n most h))

module _ (n lefts rights starts lengths : ℕ) (b : Bool) (e : b ≡ counted n lefts rights starts lengths) where
  pub counts_known : not b ≡ false → (n ≤ 4096) × (n ≤ rights) × (n ≤ starts) × (n ≤ lengths)
  counts_known h =
      let (a₁, r₁) = and_t (leb n most) _ (sym e ∙ not-false b h) in
      let (a₂, r₂) = and_t (leb n lefts) _ r₁ in
      let (a₃, r₃) = and_t (leb n rights) _ r₂ in
      let (a₄, a₅) = and_t (leb n starts) _ r₃ in
      (leb-true n 4096 a₁, leb-true n rights a₃, leb-true n starts a₄, leb-true n lengths a₅)

  pub uncounted : not b ≡ true → (r : Filled) (s l p : List ℕ) (m : List Float) → filled false s l p m ≡ fill_if (counted n lefts rights starts lengths) r s l p m
  uncounted h r s l p m = ap (λ (t : Bool). fill_if t r s l p m) (sym (not-true b h) ∙ e)

  pub counting : not b ≡ false → (f r : Filled) (s l p : List ℕ) (m : List Float) → f ≡ r → f ≡ fill_if (counted n lefts rights starts lengths) r s l p m
  counting h f r s l p m q = q ∙ ap (λ (t : Bool). fill_if t r s l p m) (sym (not-false b h) ∙ e)
