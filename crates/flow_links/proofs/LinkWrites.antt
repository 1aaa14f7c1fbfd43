-- Links written one after the other: what is done so far and what is still to come are all of them.
use mathlib.Core.Path.{◌≡◌, refl, sym, ap, subst, ◌∙◌}
use Prim.Native.Nat.{ℕ, zero, suc, ◌+◌, ◌*◌, ◌/◌, ◌%◌, ◌^◌, ◌≤◌, ◌<◌}
use mathlib.Core.Bool.{Bool, true, false}
use mathlib.Core.Logic.{◌⊎◌, inl, inr}
use mathlib.Core.List.{List, [], ◌∷◌, ◌++◌, append-nil, append_assoc}
use native.Mathlib.Omega.{arith}
use native.Mathlib.Numerals.{add-one}
use native.Mathlib.Nat.{le_of_suc-le-suc, not-suc-le-zero, mul-suc, zero-add, zero-div}
use lib.Dec.{eqb}
use lib.ListN.{length, get_or, set, take, drop, length-append, length-set, get_or-eq_default, drop_of_length-le}
use lib.Seq.{drop-cons, drop-drop, drop-set-lt}
use lib.Ieee.{Float, nan, inf}
use Rattle.numbers.specs.Real.{nought}
use Rattle.numbers.specs.Bits.{bit_at, packed}
use Rattle.numbers.proofs.Packed.{unpack_at, unpack_length, packed_bit}
use Rattle.numbers.proofs.Bools.{lt_or_ge}
use Rattle.epsdelta_theory.specs.Jumps.{jumps_of}
use Rattle.epsdelta_theory.specs.Relation.{holds, relation_of}
use Rattle.epsdelta_theory.specs.FlowTest.{Link, link_if, source_links, sink_links, cross_links, all_cross_links, links_of, heads, caps}
use Rattle.epsdelta_theory.proofs.RowReads.{jumps_length}
use Rattle.epsdelta_theory.proofs.LinkRows.{Added, Free, source_row, sink_row, cross_row, cross_rows, row_links}

heads_append : (xs ys : List Link) → heads (xs ++ ys) ≡ heads xs ++ heads ys
unfolding heads
heads_append [] ys = refl
heads_append (x ∷ xs) ys = ap (λ (l : List ℕ). x.to ∷ x.from ∷ l) (heads_append xs ys)

caps_append : (xs ys : List Link) → caps (xs ++ ys) ≡ caps xs ++ caps ys
unfolding caps
caps_append [] ys = refl
caps_append (x ∷ xs) ys = ap (λ (l : List Float). x.cap ∷ nought ∷ l) (caps_append xs ys)

-- ---- one link

two : {A : Type 0} (l : List A) (e : ℕ) (x y : A) → suc (suc e) ≤ length l → take (suc (suc e)) (set (set l e x) (suc e) y) ≡ take e l ++ (x ∷ y ∷ [])
two [] e x y h = absurd (not-suc-le-zero h)
two (a ∷ []) zero x y h = absurd (omega arith)
two (a ∷ b ∷ l) zero x y h = refl
two {A} (a ∷ l) (suc e) x y h = ap (λ (r : List A). a ∷ r) (two l e x y (le_of_suc-le-suc h))

pub written : {A : Type 0} (l : List A) (e : ℕ) (x y : A) → e + 2 ≤ length l → take (e + 2) (set (set l e x) (e + 1) y) ≡ take e l ++ (x ∷ y ∷ [])
written l e x y h = rw (let q : e + 2 ≡ suc (suc e) = omega arith in q, add-one e) (two l e x y (omega arith))

-- what follows the two places
kept : {A : Type 0} (l : List A) (e : ℕ) (x y : A) → drop (e + 2) (set (set l e x) (e + 1) y) ≡ drop (e + 2) l
kept l e x y = drop-set-lt (e + 2) (set l e x) (e + 1) y (omega arith) ∙ drop-set-lt (e + 2) l e x (omega arith)

pub put_added : (l : Link) (h : List ℕ) (c : List Float) (e : ℕ) → Free h c e 1
    → Added (l ∷ []) h c e (set (set h e l.to) (e + 1) l.from) (set (set c e l.cap) (e + 1) nought) (e + 2)
unfolding heads caps
put_added l h c e F = record {
  count = omega arith;
  heads_is = written h e l.to l.from F.heads_room;
  caps_is = written c e l.cap nought F.caps_room;
  heads_rest = kept h e l.to l.from;
  caps_rest = kept c e l.cap nought;
  heads_size = length-set (set h e l.to) (e + 1) l.from ∙ length-set h e l.to;
  caps_size = length-set (set c e l.cap) (e + 1) nought ∙ length-set c e l.cap;
}

-- ---- links after links

added_none : (h : List ℕ) (c : List Float) (e : ℕ) → Added [] h c e h c e
unfolding heads caps
added_none h c e = record { count = omega arith; heads_is = sym (append-nil (take e h)); caps_is = sym (append-nil (take e c)); heads_rest = refl; caps_rest = refl; heads_size = refl; caps_size = refl }

-- what follows later links follows earlier ones too
rest_on : {A : Type 0} (l l' : List A) (e k : ℕ) {e' : ℕ} → e' ≡ e + k → drop e l' ≡ drop e l → drop e' l' ≡ drop e' l
rest_on {A} l l' e k z h = rw z (sym (drop-drop k e l') ∙ ap (drop k) h ∙ drop-drop k e l)

pub added_join : {xs ys : List Link} {h h' h'' : List ℕ} {c c' c'' : List Float} {e e' e'' : ℕ} → Added xs h c e h' c' e' → Added ys h' c' e' h'' c'' e'' → Added (xs ++ ys) h c e h'' c'' e''
added_join {xs} {ys} {h} {h'} {h''} {c} {c'} {c''} {e} {e'} A B =
    let n = length-append xs ys in
    let p = A.count in
    let q = B.count in
    record {
      count = omega arith;
      heads_is = B.heads_is ∙ ap (λ (l : List ℕ). l ++ heads ys) A.heads_is ∙ append_assoc (take e h) (heads xs) (heads ys) ∙ ap (λ (l : List ℕ). take e h ++ l) (sym (heads_append xs ys));
      caps_is = B.caps_is ∙ ap (λ (l : List Float). l ++ caps ys) A.caps_is ∙ append_assoc (take e c) (caps xs) (caps ys) ∙ ap (λ (l : List Float). take e c ++ l) (sym (caps_append xs ys));
      heads_rest = B.heads_rest ∙ rest_on h h' e' (length ys + length ys) q A.heads_rest;
      caps_rest = B.caps_rest ∙ rest_on c c' e' (length ys + length ys) q A.caps_rest;
      heads_size = B.heads_size ∙ A.heads_size;
      caps_size = B.caps_size ∙ A.caps_size;
    }

-- of all links those still to come are `rest`; the others were written
pub record Adding (all rest : List Link) (h₀ : List ℕ) (c₀ : List Float) (e₀ : ℕ) (h : List ℕ) (c : List Float) (e : ℕ) : Type 0 where
  pub done : List Link
  pub split : done ++ rest ≡ all
  pub added : Added done h₀ c₀ e₀ h c e

pub adding_start : {all rest : List Link} (h : List ℕ) (c : List Float) (e : ℕ) → rest ≡ all → Adding all rest h c e h c e
adding_start h c e z = record { done = []; split = z; added = added_none h c e }

module _ {all : List Link} {h₀ h : List ℕ} {c₀ c : List Float} {e₀ e : ℕ} where
  pub adding_end : {rest : List Link} → rest ≡ [] → Adding all rest h₀ c₀ e₀ h c e → Added all h₀ c₀ e₀ h c e
  adding_end z A = subst (λ (ls : List Link). Added ls h₀ c₀ e₀ h c e) (sym (append-nil A.done) ∙ ap (λ (l : List Link). A.done ++ l) (sym z) ∙ A.split) A.added

  -- the next links were written
  pub adding_on : (xs rest : List Link) {next : List Link} {h' : List ℕ} {c' : List Float} {e' : ℕ} → next ≡ xs ++ rest
      → Adding all next h₀ c₀ e₀ h c e → Added xs h c e h' c' e' → Adding all rest h₀ c₀ e₀ h' c' e'
  adding_on xs rest z A B = record {
    done = A.done ++ xs;
    split = append_assoc A.done xs rest ∙ ap (λ (l : List Link). A.done ++ l) (sym z) ∙ A.split;
    added = added_join A.added B;
  }

  -- where there is room for all, there is room for the next
  pub free_next : (xs rest : List Link) {next : List Link} → next ≡ xs ++ rest → Free h₀ c₀ e₀ (length all) → Adding all next h₀ c₀ e₀ h c e → Free h c e (length xs)
  free_next xs rest z F A =
      let n = sym (ap length (ap (λ (l : List Link). A.done ++ l) (sym z) ∙ A.split)) ∙ length-append A.done (xs ++ rest) in
      let m = length-append xs rest in
      let p = A.added.count in
      let a = A.added.heads_size in
      let b = A.added.caps_size in
      let f = F.heads_room in
      let g = F.caps_room in
      let l = F.small in
      record { heads_room = omega arith; caps_room = omega arith; small = omega arith }

-- ---- the turns of the loops

pub source_next : (s i : ℕ) (ws : List Float) → i < length ws → source_row s i (drop i ws) ≡ (record { from = s; to = i; cap = get_or ws i nan } ∷ []) ++ source_row s (i + 1) (drop (i + 1) ws)
unfolding source_row
source_next s i ws h = ap (source_row s i) (drop-cons ws i nan h) ∙ rw (add-one i)

pub sink_next : (s k i : ℕ) (ws : List Float) → i < length ws
    → sink_row s (k + i) (drop i ws) ≡ (record { from = k + i; to = s; cap = get_or ws i nan } ∷ []) ++ sink_row s (k + (i + 1)) (drop (i + 1) ws)
unfolding sink_row
sink_next s k i ws h = ap (sink_row s (k + i)) (drop-cons ws i nan h) ∙ rw (add-one i, let q : k + suc i ≡ suc (k + i) = omega arith in q)

if_before : (b : Bool) (i k : ℕ) (ls : List Link) → link_if b i k ls ≡ link_if b i k [] ++ ls
unfolding link_if
if_before true i k ls = refl
if_before false i k ls = refl

pub cross_next : (store : List ℕ) (b i k j : ℕ) (ts : List ℕ) {r : Bool} → r ≡ bit_at store (b + get_or ts j 0) → j < length ts
    → cross_row store b i (k + j) (drop j ts) ≡ link_if r i (k + j) [] ++ cross_row store b i (k + (j + 1)) (drop (j + 1) ts)
unfolding cross_row
cross_next store b i k j ts z h =
    ap (cross_row store b i (k + j)) (drop-cons ts j 0 h)
    ∙ rw (add-one j, z, let q : k + suc j ≡ suc (k + j) = omega arith in q) (if_before (bit_at store (b + get_or ts j 0)) i (k + j) (cross_row store b i (suc (k + j)) (drop (suc j) ts)))

-- a link of infinite capacity was written, or none
pub if_put : (b : Bool) {i k : ℕ} {x : Float} {h h' : List ℕ} {c c' : List Float} {e e' : ℕ} → b ≡ true → x ≡ inf false → Added (record { from = i; to = k; cap = x } ∷ []) h c e h' c' e' → Added (link_if b i k []) h c e h' c' e'
unfolding link_if
if_put b {i} {k} {x} {h} {h'} {c} {c'} {e} {e'} t z A = rw t (subst (λ (y : Float). Added (record { from = i; to = k; cap = y } ∷ []) h c e h' c' e') z A)

pub if_none : (b : Bool) (i k : ℕ) (h : List ℕ) (c : List Float) (e : ℕ) → b ≡ false → Added (link_if b i k []) h c e h c e
unfolding link_if
if_none b i k h c e t = rw t (added_none h c e)

pub if_free : (b : Bool) (i k : ℕ) {h : List ℕ} {c : List Float} {e : ℕ} → b ≡ true → Free h c e (length (link_if b i k [])) → Free h c e 1
unfolding link_if
if_free b i k {h} {c} {e} t F = subst (λ (x : Bool). Free h c e (length (link_if x i k []))) t F

pub crosses_next : (store : List ℕ) (n k i : ℕ) (us ts : List ℕ) → i < length us
    → cross_rows store n i k (drop i us) ts ≡ cross_row store (get_or us i 0 * n) i k ts ++ cross_rows store n (i + 1) k (drop (i + 1) us) ts
unfolding cross_rows
crosses_next store n k i us ts h = ap (λ (l : List ℕ). cross_rows store n i k l ts) (drop-cons us i 0 h) ∙ rw (add-one i)

pub source_end : (s k i : ℕ) (ws : List Float) → length ws ≤ i → source_row s k (drop i ws) ≡ []
unfolding source_row
source_end s k i ws h = ap (source_row s k) (drop_of_length-le ws h)

pub sink_end : (s k i : ℕ) (ws : List Float) → length ws ≤ i → sink_row s k (drop i ws) ≡ []
unfolding sink_row
sink_end s k i ws h = ap (sink_row s k) (drop_of_length-le ws h)

pub cross_end : (store : List ℕ) (b i k j : ℕ) (ts : List ℕ) → length ts ≤ j → cross_row store b i k (drop j ts) ≡ []
unfolding cross_row
cross_end store b i k j ts h = ap (cross_row store b i k) (drop_of_length-le ts h)

pub crosses_end : (store : List ℕ) (n k i : ℕ) (us ts : List ℕ) → length us ≤ i → cross_rows store n i k (drop i us) ts ≡ []
unfolding cross_rows
crosses_end store n k i us ts h = ap (λ (l : List ℕ). cross_rows store n i k l ts) (drop_of_length-le us h)

-- ---- the links of two rows are those of their jumps

source_row_lem : (s i : ℕ) (ts : List ℕ) (ws : List Float) → length ws ≡ length ts → source_row s i ws ≡ source_links s i (jumps_of ts ws)
unfolding jumps_of source_row source_links
source_row_lem s i [] [] h = refl
source_row_lem s i [] (w ∷ ws) h = absurd (omega arith)
source_row_lem s i (t ∷ ts) [] h = absurd (omega arith)
source_row_lem s i (t ∷ ts) (w ∷ ws) h = ap (λ (l : List Link). record { from = s; to = i; cap = w } ∷ l) (source_row_lem s (suc i) ts ws (omega arith))

sink_row_lem : (s i : ℕ) (ts : List ℕ) (ws : List Float) → length ws ≡ length ts → sink_row s i ws ≡ sink_links s i (jumps_of ts ws)
unfolding jumps_of sink_row sink_links
sink_row_lem s i [] [] h = refl
sink_row_lem s i [] (w ∷ ws) h = absurd (omega arith)
sink_row_lem s i (t ∷ ts) [] h = absurd (omega arith)
sink_row_lem s i (t ∷ ts) (w ∷ ws) h = ap (λ (l : List Link). record { from = i; to = s; cap = w } ∷ l) (sink_row_lem s (suc i) ts ws (omega arith))

module _ (n : ℕ) (store : List ℕ) (R : List Bool) (same : (i : ℕ) → bit_at store i ≡ get_or R i false) where
  cross_row_lem : (u i k : ℕ) (ts : List ℕ) (ws : List Float) → length ws ≡ length ts → cross_row store (u * n) i k ts ≡ cross_links n R u i k (jumps_of ts ws)
  unfolding jumps_of cross_row cross_links holds
  cross_row_lem u i k [] [] h = refl
  cross_row_lem u i k [] (w ∷ ws) h = absurd (omega arith)
  cross_row_lem u i k (t ∷ ts) [] h = absurd (omega arith)
  cross_row_lem u i k (t ∷ ts) (w ∷ ws) h =
      ap (λ (x : Bool). link_if x i k (cross_row store (u * n) i (suc k) ts)) (same (u * n + t))
      ∙ ap (λ (l : List Link). link_if (get_or R (u * n + t) false) i k l) (cross_row_lem u i (suc k) ts ws (omega arith))

  cross_rows_lem : (i k : ℕ) (us : List ℕ) (vs : List Float) (ts : List ℕ) (ws : List Float) → length vs ≡ length us → length ws ≡ length ts
      → cross_rows store n i k us ts ≡ all_cross_links n R i k (jumps_of us vs) (jumps_of ts ws)
  unfolding jumps_of cross_rows all_cross_links
  cross_rows_lem i k [] [] ts ws h g = refl
  cross_rows_lem i k [] (v ∷ vs) ts ws h g = absurd (omega arith)
  cross_rows_lem i k (u ∷ us) [] ts ws h g = absurd (omega arith)
  cross_rows_lem i k (u ∷ us) (v ∷ vs) ts ws h g =
      ap (λ (l : List Link). l ++ cross_rows store n (suc i) k us ts) (cross_row_lem u i k ts ws g)
      ∙ ap (λ (l : List Link). cross_links n R u i k (jumps_of ts ws) ++ l) (cross_rows_lem (suc i) k us vs ts ws (omega arith) g)

  row_links_lem : (us : List ℕ) (vs : List Float) (ts : List ℕ) (ws : List Float) → length vs ≡ length us → length ws ≡ length ts
      → row_links store n us vs ts ws ≡ links_of n R (jumps_of us vs) (jumps_of ts ws)
  unfolding links_of
  row_links_lem us vs ts ws h g =
      let a = length us in
      let b = length ts in
      rw (
        jumps_length us vs (sym h),
        jumps_length ts ws (sym g),
        ← source_row_lem (a + b) 0 us vs h,
        ← add-one (a + b),
        ← sink_row_lem (a + b + 1) a ts ws g,
        ← cross_rows_lem 0 a us vs ts ws h g,
      )

-- ---- the relation of a store of bytes

pub entry : (store : List ℕ) (i : ℕ) → bit_at store i ≡ get_or (relation_of store) i false
unfolding bit_at
entry store i = pick (lt_or_ge i (8 * length store))
  where
    pick : (i < 8 * length store) ⊎ (8 * length store ≤ i) → bit_at store i ≡ get_or (relation_of store) i false
    pick (inl h) = sym (unpack_at store (8 * length store) 0 i h ∙ ap (bit_at store) (zero-add i))
    pick (inr h) =
        let l = unpack_length store (8 * length store) 0 in
        ap (λ (x : ℕ). eqb (x / 2 ^ (i % 8) % 2) 1) (get_or-eq_default store 0 (omega arith))
        ∙ ap (λ (x : ℕ). eqb (x % 2) 1) (zero-div (2 ^ (i % 8)))
        ∙ sym (get_or-eq_default (relation_of store) false (omega arith))

-- the links of rows, with the relation that the bytes hold
pub links_are : (n : ℕ) (store : List ℕ) (us : List ℕ) (vs : List Float) (ts : List ℕ) (ws : List Float) → length vs ≡ length us → length ws ≡ length ts
    → row_links store n us vs ts ws ≡ links_of n (relation_of store) (jumps_of us vs) (jumps_of ts ws)
links_are n store = row_links_lem n store (relation_of store) (entry store)

-- a relation that was packed is read as it was
pub links_same : (n : ℕ) (store : List ℕ) (R : List Bool) → store ≡ packed R → (us : List ℕ) (vs : List Float) (ts : List ℕ) (ws : List Float) → length vs ≡ length us → length ws ≡ length ts
    → links_of n (relation_of store) (jumps_of us vs) (jumps_of ts ws) ≡ links_of n R (jumps_of us vs) (jumps_of ts ws)
links_same n store R z us vs ts ws h g = sym (links_are n store us vs ts ws h g) ∙ row_links_lem n store R (λ i. ap (λ (x : List ℕ). bit_at x i) z ∙ packed_bit R i) us vs ts ws h g

-- ---- how many links

source_size : (s i : ℕ) (ws : List Float) → length (source_row s i ws) ≡ length ws
unfolding source_row
source_size s i [] = refl
source_size s i (w ∷ ws) = ap suc (source_size s (suc i) ws)

sink_size : (s i : ℕ) (ws : List Float) → length (sink_row s i ws) ≡ length ws
unfolding sink_row
sink_size s i [] = refl
sink_size s i (w ∷ ws) = ap suc (sink_size s (suc i) ws)

if_size : (b : Bool) (i k : ℕ) (ls : List Link) → length (link_if b i k ls) ≤ suc (length ls)
unfolding link_if
if_size true i k ls = omega arith
if_size false i k ls = omega arith

cross_size : (store : List ℕ) (b i k : ℕ) (ts : List ℕ) → length (cross_row store b i k ts) ≤ length ts
unfolding cross_row
cross_size store b i k [] = omega arith
cross_size store b i k (t ∷ ts) =
    let r = cross_size store b i (suc k) ts in
    let a = if_size (bit_at store (b + t)) i k (cross_row store b i (suc k) ts) in omega arith

crosses_size : (store : List ℕ) (n i k w : ℕ) (us ts : List ℕ) → length ts ≤ w → length (cross_rows store n i k us ts) ≤ w * length us
unfolding cross_rows
crosses_size store n i k w [] ts h = omega arith
crosses_size store n i k w (u ∷ us) ts h =
    let r = crosses_size store n (suc i) k w us ts h in
    let a = cross_size store (u * n) i k ts in
    let e = mul-suc w (length us) in
    rw (length-append (cross_row store (u * n) i k ts) (cross_rows store n (suc i) k us ts)) (omega arith)

pub links_most : (store : List ℕ) (n w : ℕ) (us : List ℕ) (vs : List Float) (ts : List ℕ) (ws : List Float) → length ts ≤ w → length (row_links store n us vs ts ws) ≤ length vs + length ws + w * length us
links_most store n w us vs ts ws h =
    let a = length us in
    let b = length ts in
    let s = crosses_size store n 0 a w us ts h in
    rw (
      length-append (source_row (a + b) 0 vs) (sink_row (a + b + 1) a ws ++ cross_rows store n 0 a us ts),
      length-append (sink_row (a + b + 1) a ws) (cross_rows store n 0 a us ts),
      source_size (a + b) 0 vs,
      sink_size (a + b + 1) a ws,
    ) (omega arith)
