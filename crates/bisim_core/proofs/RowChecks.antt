-- One row. Edges: each of a row that rises comes before the next. The turns of the loop over the targets: with a list of those known, whose marks and only they
-- (and that of s itself) are s + 1, and whose length is the count, the targets still to come make the row's distinct ones; a target that is marked is known
-- or s, and changes nothing; another goes to the end of the list.
use mathlib.Core.Path.{◌≡◌, refl, sym, subst, ap, ◌∙◌}
use mathlib.Core.Logic.{◌⊎◌, inl, inr, ◌≢◌}
use mathlib.Core.Bool.{Bool, true, false, ◌&&◌, not}
use Prim.Native.Nat.{ℕ, zero, suc, ◌+◌, ◌-◌, ◌≤◌, ◌<◌}
use mathlib.Core.List.{List, [], ◌∷◌, ◌++◌, map}
use native.Mathlib.Omega.{arith}
use native.Mathlib.Numerals.{add-one}
use lib.Dec.{eqb}
use lib.Ieee.{Float}
use lib.ListN.{length, get_or, take, drop, set, replicate, length-set, length-append, length-drop}
use Rattle.std.proofs.lemmas.List.{length-take, get_or-take, get_or-drop}
use lib.Seq.{get_or-set_same, get_or-set_other}
use borrow.Author.Tests.{eq-eqb, ne_eqb, lt-ltb, le-ltb, ltb-true, ltb-false}
use Rattle.numbers.specs.Lists.{span}
use Rattle.numbers.specs.Search.{here, seek}
use Rattle.numbers.proofs.Bools.{eq_or_ne, lt_or_ge, and_t}
use Rattle.numbers.proofs.Seeks.{seek_more, seek_new}
use Rattle.bisim_core.specs.Data.{Columns, columns}
use Rattle.bisim_core.specs.Ids.{listed, intern, distinct}
use Rattle.bisim_core.specs.Edges.{chosen, others}
use Rattle.bisim_core.specs.Model.{edge_at, follows, rises}
use Rattle.bisim_core.proofs.Distinct.{intern_old, intern_new}

-- ---- the edges from i to `to` rise: the first two do, and then the rest

module _ (M : Columns) (s to : ℕ) where
  abbrev pub Rises : ℕ → Bool
  Rises i = rises (map (edge_at M s) (span i (to - i)))

  two : (i k : ℕ) → to - i ≡ suc (suc k) → Rises i ≡ (follows (edge_at M s i) (edge_at M s (i + 1)) && Rises (i + 1))
  unfolding rises span
  two i k e =
      let f : to - (i + 1) ≡ suc k = omega arith in
      ap (λ (n : ℕ). rises (map (edge_at M s) (span i n))) e
      ∙ ap (λ (j : ℕ). follows (edge_at M s i) (edge_at M s j) && rises (map (edge_at M s) (span j (suc k)))) (sym (add-one i))
      ∙ ap (λ (n : ℕ). follows (edge_at M s i) (edge_at M s (i + 1)) && rises (map (edge_at M s) (span (i + 1) n))) (sym f)

  -- each edge of a row that rises comes before the next
  rise_from : (d i : ℕ) → Rises i ≡ true → i + d + 1 < to → follows (edge_at M s (i + d)) (edge_at M s (i + d + 1)) ≡ true
  rise_from zero i e h =
      let z : i ≡ i + 0 = omega arith in
      subst (λ (j : ℕ). follows (edge_at M s j) (edge_at M s (j + 1)) ≡ true) z (and_t (follows (edge_at M s i) (edge_at M s (i + 1))) (Rises (i + 1)) (sym (two i (to - i - 2) (omega arith)) ∙ e)).0
  rise_from (suc d) i e h =
      let z : i + 1 + d ≡ i + suc d = omega arith in
      subst (λ (j : ℕ). follows (edge_at M s j) (edge_at M s (j + 1)) ≡ true) z (rise_from d (i + 1) (and_t (follows (edge_at M s i) (edge_at M s (i + 1))) (Rises (i + 1)) (sym (two i (to - i - 2) (omega arith)) ∙ e)).1 (omega arith))

  pub rise_at : (from i : ℕ) → Rises from ≡ true → from ≤ i → i + 1 < to → follows (edge_at M s i) (edge_at M s (i + 1)) ≡ true
  rise_at from i e h k =
      let z : from + (i - from) ≡ i = omega arith in
      subst (λ (j : ℕ). follows (edge_at M s j) (edge_at M s (j + 1)) ≡ true) z (rise_from (i - from) from e (omega arith))

-- ---- values listed

-- a value that is not listed is not listed behind another
seek_absent : (x t : ℕ) (l : List ℕ) → t ≢ x → length l ≤ seek x l → length l + 1 ≤ seek x (l ++ (t ∷ []))
unfolding seek
seek_absent x t [] e h = rw (ne_eqb t x e) (omega arith)
seek_absent x t (y ∷ l) e h = pick (λ g. seek_absent x t l e g) (eqb y x) h
  where
    pick : (length l ≤ seek x l → length l + 1 ≤ seek x (l ++ (t ∷ []))) → (b : Bool) → suc (length l) ≤ here b (seek x l) → suc (length l) + 1 ≤ here b (seek x (l ++ (t ∷ [])))
    pick ih true g = absurd (omega arith)
    pick ih false g = let i = ih (omega arith) in omega arith

pub listed_other : (x t : ℕ) (l : List ℕ) → x ≢ t → listed x (l ++ (t ∷ [])) ≡ listed x l
listed_other x t l e = pick (lt_or_ge (seek x l) (length l))
  where
    n : length (l ++ (t ∷ [])) ≡ length l + 1
    n = length-append l (t ∷ [])

    pick : (seek x l < length l) ⊎ (length l ≤ seek x l) → listed x (l ++ (t ∷ [])) ≡ listed x l
    pick (inl h) = let q = seek_more x l (t ∷ []) h in let k = n in lt-ltb (seek x (l ++ (t ∷ []))) (length (l ++ (t ∷ []))) (omega arith) ∙ sym (lt-ltb (seek x l) (length l) h)
    pick (inr h) =
        let q = seek_absent x t l (λ z. e (sym z)) h in
        let k = n in
        le-ltb (seek x (l ++ (t ∷ []))) (length (l ++ (t ∷ []))) (omega arith) ∙ sym (le-ltb (seek x l) (length l) h)

pub listed_new : (t : ℕ) (l : List ℕ) → listed t l ≡ false → listed t (l ++ (t ∷ [])) ≡ true
listed_new t l e =
    let q = seek_new t l (ltb-false (seek t l) (length l) e) in
    let n = length-append l (t ∷ []) in
    lt-ltb (seek t (l ++ (t ∷ []))) (length (l ++ (t ∷ []))) (omega arith)

-- ---- the targets counted: the marks of those known, and of s itself, are s + 1

pub record Counting (T : List ℕ) (from to s m : ℕ) (marks : List ℕ) (count i : ℕ) : Type 0 where
  pub i_in : i ≤ to
  pub size : length marks ≡ m
  pub low : (x : ℕ) → get_or marks x 0 ≤ s + 1
  pub self : get_or marks s 0 ≡ s + 1
  pub known : List ℕ
  pub counted : count ≡ length known
  pub few : count ≤ i
  pub marked : (x : ℕ) → x ≢ s → listed x known ≡ eqb (get_or marks x 0) (s + 1)
  pub rest : (D O L : List ℕ) (W : List Float) → intern known (others s (map (edge_at (columns D O L T W) s) (span i (to - i)))) ≡ distinct (others s (map (edge_at (columns D O L T W) s) (span from (to - from))))

pub counting : (T : List ℕ) (from to s : ℕ) (marks : List ℕ) → from ≤ to → s < length marks → ((x : ℕ) → get_or marks x 0 ≤ s)
    → Counting T from to s (length (set marks s (s + 1))) (set marks s (s + 1)) 0 from
unfolding seek
counting T from to s marks f s-in low = record {
  i_in = f;
  size = refl;
  low = λ x. pick x (eq_or_ne x s);
  self = get_or-set_same marks s (s + 1) 0 s-in;
  known = [];
  counted = refl;
  few = omega arith;
  marked = λ x e. let l = low x in sym (ne_eqb (get_or (set marks s (s + 1)) x 0) (s + 1) (λ z. let g = get_or-set_other marks s x (s + 1) 0 e in omega arith));
  rest = λ D O L W. refl;
}
  where
    pick : (x : ℕ) → (x ≡ s) ⊎ (x ≢ s) → get_or (set marks s (s + 1)) x 0 ≤ s + 1
    pick x (inl e) = subst (λ (y : ℕ). get_or (set marks s (s + 1)) y 0 ≤ s + 1) (sym e) (let g = get_or-set_same marks s (s + 1) 0 s-in in omega arith)
    pick x (inr e) = let g = get_or-set_other marks s x (s + 1) 0 e in let l = low x in omega arith

module _ {T : List ℕ} {from to s m : ℕ} {marks : List ℕ} {count i : ℕ} (I : Counting T from to s m marks count i) where
  module _ (h : i < to) where
    abbrev t : ℕ
    t = get_or T i 0

    -- the target at i, if it is not s, and those after it
    next : (D O L : List ℕ) (W : List Float) → others s (map (edge_at (columns D O L T W) s) (span i (to - i)))
        ≡ chosen (eqb s s && not (eqb t s)) t (others s (map (edge_at (columns D O L T W) s) (span (i + 1) (to - (i + 1)))))
    unfolding others span
    next D O L W =
        let e : to - i ≡ suc (to - (i + 1)) = omega arith in
        ap (λ (n : ℕ). others s (map (edge_at (columns D O L T W) s) (span i n))) e
        ∙ ap (λ (j : ℕ). chosen (eqb s s && not (eqb t s)) t (others s (map (edge_at (columns D O L T W) s) (span j (to - (i + 1)))))) (sym (add-one i))

    -- s itself is left out
    own : t ≡ s → (eqb s s && not (eqb t s)) ≡ false
    own e = rw (eq-eqb s s refl, eq-eqb t s e)

    other : t ≢ s → (eqb s s && not (eqb t s)) ≡ true
    other e = rw (eq-eqb s s refl, ne_eqb t s e)

    pub turn_old : get_or marks t 0 ≡ s + 1 → (marks' : List ℕ) (count' : ℕ) → marks' ≡ marks → count' ≡ count → Counting T from to s m marks' count' (i + 1)
    turn_old e marks' count' p q = rw (p, q) (record {
      i_in = omega arith;
      size = I.size;
      low = I.low;
      self = I.self;
      known = I.known;
      counted = I.counted;
      few = let a = I.few in omega arith;
      marked = I.marked;
      rest = λ D O L W. pick D O L W (eq_or_ne t s);
    })
      where
        pick : (D O L : List ℕ) (W : List Float) → (t ≡ s) ⊎ (t ≢ s)
            → intern I.known (others s (map (edge_at (columns D O L T W) s) (span (i + 1) (to - (i + 1))))) ≡ distinct (others s (map (edge_at (columns D O L T W) s) (span from (to - from))))
        pick D O L W (inl z) = sym (ap (intern I.known) (next D O L W ∙ rw (own z))) ∙ I.rest D O L W
        pick D O L W (inr z) =
            sym (intern_old I.known t _ (ltb-true _ _ (I.marked t z ∙ eq-eqb _ _ e)))
            ∙ sym (ap (intern I.known) (next D O L W ∙ rw (other z))) ∙ I.rest D O L W

    module _ (t-in : t < length marks) (e : get_or marks t 0 ≢ s + 1) where
      apart : t ≢ s
      apart z = e (ap (λ (x : ℕ). get_or marks x 0) z ∙ I.self)

      new : listed t I.known ≡ false
      new = I.marked t apart ∙ ne_eqb _ _ e

      pub turn_new : (marks' : List ℕ) (count' : ℕ) → marks' ≡ set marks t (s + 1) → count' ≡ count + 1 → Counting T from to s m marks' count' (i + 1)
      turn_new marks' count' p q = rw (p, q) (record {
        i_in = omega arith;
        size = length-set marks t (s + 1) ∙ I.size;
        low = λ x. low x (eq_or_ne x t);
        self = get_or-set_other marks t s (s + 1) 0 (λ z. apart (sym z)) ∙ I.self;
        known = I.known ++ (t ∷ []);
        counted = let a = I.counted in let b = length-append I.known (t ∷ []) in omega arith;
        few = let a = I.few in omega arith;
        marked = λ x z. marked x z (eq_or_ne x t);
        rest = λ D O L W. sym (intern_new I.known t _ (ltb-false _ _ new)) ∙ sym (ap (intern I.known) (next D O L W ∙ rw (other apart))) ∙ I.rest D O L W;
      })
        where
          low : (x : ℕ) → (x ≡ t) ⊎ (x ≢ t) → get_or (set marks t (s + 1)) x 0 ≤ s + 1
          low x (inl z) = subst (λ (y : ℕ). get_or (set marks t (s + 1)) y 0 ≤ s + 1) (sym z) (let g = get_or-set_same marks t (s + 1) 0 t-in in omega arith)
          low x (inr z) = let g = get_or-set_other marks t x (s + 1) 0 z in let l = I.low x in omega arith

          marked : (x : ℕ) → x ≢ s → (x ≡ t) ⊎ (x ≢ t) → listed x (I.known ++ (t ∷ [])) ≡ eqb (get_or (set marks t (s + 1)) x 0) (s + 1)
          marked x y (inl z) = subst (λ (w : ℕ). listed w (I.known ++ (t ∷ [])) ≡ eqb (get_or (set marks t (s + 1)) w 0) (s + 1)) (sym z)
              (listed_new t I.known new ∙ sym (eq-eqb _ _ (get_or-set_same marks t (s + 1) 0 t-in)))
          marked x y (inr z) = listed_other x t I.known z ∙ I.marked x y ∙ ap (λ (w : ℕ). eqb w (s + 1)) (sym (get_or-set_other marks t x (s + 1) 0 z))

  pub all_counted : to ≤ i → (D O L : List ℕ) (W : List Float) → count ≡ length (distinct (others s (map (edge_at (columns D O L T W) s) (span from (to - from)))))
  unfolding others span intern
  all_counted h D O L W =
      let z : to - i ≡ 0 = omega arith in
      I.counted ∙ ap length (sym (ap (λ (n : ℕ). intern I.known (others s (map (edge_at (columns D O L T W) s) (span i n)))) z) ∙ I.rest D O L W)

-- an entry of the part of a list from a to b, which is from `from` to `to`
pub part_at : (T : List ℕ) (from to a b k : ℕ) → a ≡ from → b ≡ to → k < length (take (b - a) (drop a T)) → (from + k < to) × (get_or (take (b - a) (drop a T)) k 0 ≡ get_or T (from + k) 0)
part_at T from to a b k p q = rw (p, q) (λ h.
    let l = length-take (to - from) (drop from T) in
    let n : k < to - from = omega (arith, l, h) in
    (omega arith, get_or-take (to - from) (drop from T) k 0 n ∙ get_or-drop from T k 0))

-- its length
pub part_length : (T : List ℕ) (from to a b k : ℕ) → a ≡ from → b ≡ to → to ≤ length T → length (take (b - a) (drop a T)) ≤ k → to ≤ from + k
part_length T from to a b k p q u = rw (p, q) (λ h.
    let l = length-take (to - from) (drop from T) in
    let d = length-drop from T in
    omega (arith, l, d, h, u))

-- no mark yet
pub unmarked : (n x : ℕ) → get_or {A = ℕ} (replicate n 0) x 0 ≤ 0
unmarked zero x = omega arith
unmarked (suc n) zero = omega arith
unmarked (suc n) (suc x) = unmarked n x
