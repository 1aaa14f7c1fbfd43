-- The turns of `intern_all`: a value that is known, or a new one, which goes to the end of the store; and what holds at the end.
use mathlib.Core.Path.{◌≡◌, refl, sym, subst, ap, ◌∙◌}
use mathlib.Core.Logic.{◌⊎◌, inl, inr, ◌≢◌}
use Prim.Native.Nat.{ℕ, suc, ◌+◌, ◌≤◌, ◌<◌}
use mathlib.Core.List.{List, [], ◌∷◌, ◌++◌}
use native.Mathlib.Omega.{arith}
use native.Mathlib.Numerals.{add-one}
use lib.ListN.{length, get_or, take, drop, set, length-set, length-append}
use Rattle.std.proofs.lemmas.List.{drop_all}
use lib.Seq.{drop-cons, take-suc-set, length-take-le, get_or-set_same, get_or-set_other}
use Rattle.std.specs.Prelude.{Some, None}
use borrow.Author.Tests.{ltb-true, ltb-false}
use Rattle.numbers.specs.Search.{seek, place}
use Rattle.bisim_core.proofs.Interning.{placed_at, unplaced}
use Rattle.bisim_core.specs.Ids.{intern, distinct}
use Rattle.build_theory.proofs.Steps.{Interned}
use Rattle.numbers.proofs.Bools.{eq_or_ne}
use Rattle.numbers.proofs.Seeks.{seek_le, seek_new}
use Rattle.bisim_core.proofs.Distinct.{intern_old, intern_new, intern_seek, intern_longer, Single, single_intern}

pub record Interning (values : List ℕ) (store₀ ids₀ store ids : List ℕ) (i count : ℕ) : Type 0 where
  pub i_in : i ≤ length values
  pub store_size : length store ≡ length store₀
  pub ids_size : length ids ≡ length ids₀
  pub room : count ≤ length store₀
  pub single : Single (take count store)
  pub same : intern (take count store) (drop i values) ≡ distinct values
  pub found : (j : ℕ) → j < i → get_or ids j 0 ≡ seek (get_or values j 0) (distinct values)
  pub rest : (j : ℕ) → length values ≤ j → get_or ids j 0 ≡ get_or ids₀ j 0

pub interning : (values : List ℕ) (store ids : List ℕ) → Interning values store ids store ids 0 0
interning values store ids = record { i_in = omega arith; store_size = refl; ids_size = refl; room = omega arith; single = λ j h. absurd (omega arith); same = refl; found = λ j h. absurd (omega arith); rest = λ j h. refl }

module _ {values : List ℕ} {store₀ ids₀ store ids : List ℕ} {i count : ℕ} (I : Interning values store₀ ids₀ store ids i count) (h : i < length values) where
  abbrev x : ℕ
  x = get_or values i 0

  known_length : length (take count store) ≡ count
  known_length = length-take-le count store (let a = I.room in let b = I.store_size in omega arith)

  stepped : intern (take count store) (x ∷ drop (suc i) values) ≡ distinct values
  stepped = ap (intern (take count store)) (sym (drop-cons values i 0 h)) ∙ I.same

  next_found : (k : ℕ) → length values ≤ length ids₀ → k ≡ seek x (distinct values)
      → (j : ℕ) → j < i + 1 → get_or (set ids i k) j 0 ≡ seek (get_or values j 0) (distinct values)
  next_found k r e j l = pick (eq_or_ne j i)
    where
      pick : (j ≡ i) ⊎ (j ≢ i) → get_or (set ids i k) j 0 ≡ seek (get_or values j 0) (distinct values)
      pick (inl p) = subst (λ (m : ℕ). get_or (set ids i k) m 0 ≡ seek (get_or values m 0) (distinct values)) (sym p)
          (get_or-set_same ids i k 0 (let a = I.ids_size in omega arith) ∙ e)
      pick (inr p) = get_or-set_other ids i j k 0 p ∙ I.found j (omega arith)

  next_rest : (k j : ℕ) → length values ≤ j → get_or (set ids i k) j 0 ≡ get_or ids₀ j 0
  next_rest k j l = get_or-set_other ids i j k 0 (λ e. omega arith) ∙ I.rest j l

  -- the place of the value, if it is known
  pub old_at : (k : ℕ) → Some k ≡ place x (take count store) → (k ≡ seek x (take count store)) × (k ≢ count)
  old_at k e =
      let p = placed_at x k (take count store) e in
      let l = known_length in
      let a = ltb-true _ _ p.0 in
      (p.1, λ d. let b = p.1 in absurd (omega arith))

  -- and the count, if it is new
  pub new_at : None ≡ place x (take count store) → count ≡ seek x (take count store)
  new_at e =
      let l = known_length in
      let z = seek_le x (take count store) in
      let a = ltb-false _ _ (unplaced x (take count store) e) in
      omega arith

  -- the value is known: its place is k
  pub turn_old : (k : ℕ) → length values ≤ length ids₀ → k ≡ seek x (take count store) → k ≢ count
      → (store' : List ℕ) (count' : ℕ) → store' ≡ store → count' ≡ count → Interning values store₀ ids₀ store' (set ids i k) (i + 1) count'
  turn_old k r e d store' count' p q =
      let l = known_length in
      let z = seek_le x (take count store) in
      let old : seek x (take count store) < length (take count store) = omega arith in
      let go : intern (take count store) (drop (suc i) values) ≡ distinct values = sym (intern_old (take count store) x (drop (suc i) values) old) ∙ stepped in
      rw (p, q) (record {
        i_in = omega arith;
        store_size = I.store_size;
        ids_size = length-set ids i k ∙ I.ids_size;
        room = I.room;
        single = I.single;
        same = rw (add-one i) go;
        found = next_found k r (e ∙ sym (intern_seek x (take count store) (drop (suc i) values) old) ∙ ap (seek x) go);
        rest = next_rest k;
      })

  module _ (k : ℕ) (e : k ≡ seek x (take count store)) (d : k ≡ count) where
    new : length (take count store) ≤ seek x (take count store)
    new = let l = known_length in omega arith

    after : intern (take count store ++ (x ∷ [])) (drop (suc i) values) ≡ distinct values
    after = sym (intern_new (take count store) x (drop (suc i) values) new) ∙ stepped

    grown : length (take count store ++ (x ∷ [])) ≡ suc count
    grown = let a = length-append (take count store) (x ∷ []) in let l = known_length in omega arith

    more_single : Single (take count store ++ (x ∷ []))
    unfolding intern
    more_single = subst Single (intern_new (take count store) x [] new) (single_intern (take count store) (x ∷ []) I.single)

    -- and there is no room for it
    pub full : count ≡ length store₀ → length store₀ < length (distinct values)
    full f = let a = grown in let b = intern_longer (take count store ++ (x ∷ [])) (drop (suc i) values) in let c = ap length after in omega arith

    pub turn_new : length values ≤ length ids₀ → count ≢ length store₀
        → (store' : List ℕ) (count' : ℕ) → store' ≡ set store count x → count' ≡ count + 1 → Interning values store₀ ids₀ store' (set ids i k) (i + 1) count'
    turn_new r f store' count' p q =
        let a = I.room in
        let b = I.store_size in
        let known : take (suc count) (set store count x) ≡ take count store ++ (x ∷ []) = take-suc-set store count x (omega arith) in
        let at : seek x (take count store ++ (x ∷ [])) ≡ length (take count store) = seek_new x (take count store) new in
        rw (p, q, add-one count) (record {
          i_in = omega arith;
          store_size = length-set store count x ∙ b;
          ids_size = length-set ids i k ∙ I.ids_size;
          room = omega arith;
          single = rw known more_single;
          same = rw (add-one i, known) after;
          found = next_found k r (d ∙ sym (at ∙ known_length) ∙ sym (intern_seek x (take count store ++ (x ∷ [])) (drop (suc i) values)
              (let g = grown in let l = known_length in omega arith)) ∙ ap (seek x) after);
          rest = next_rest k;
        })

-- ---- the end

pub interned : {values store₀ ids₀ store ids : List ℕ} {i count : ℕ} → Interning values store₀ ids₀ store ids i count → length values ≤ i → Interned values store₀ store ids₀ ids count
unfolding intern
interned {values} {store₀} {ids₀} {store} {ids} {i} {count} I h =
    let a = I.i_in in
    record {
      room = I.room;
      front = ap (intern (take count store)) (sym (drop_all i values h)) ∙ I.same;
      ids = λ j k. I.found j (omega arith);
      rest = I.rest;
    }
