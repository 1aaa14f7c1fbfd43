-- The edges rise strictly: a triple is a number (`rank`), sorting puts the numbers in order, joining leaves each once, dropping keeps the order. And what holds of all transitions holds of all edges.
use mathlib.Core.Path.{◌≡◌, refl, sym, ◌∙◌}
use mathlib.Core.Bool.{Bool, true, false, true≢false}
use Prim.Native.Nat.{ℕ, zero, suc, ◌+◌, ◌*◌, ◌≤◌, ◌<◌}
use mathlib.Core.List.{List, [], ◌∷◌, map}
use native.Mathlib.Omega.{arith}
use lib.Dec.{ltb}
use borrow.Author.Tests.{ltb-true, ltb-false, eq-eqb}
use Rattle.bisim_core.specs.Data.{Edge}
use Rattle.build_theory.specs.Edges.{before, put, insert, sort_edges, same, taken, ended, runs, join, keep, nonzero}
use Rattle.numbers.specs.Real.{is_zero}
use Rattle.numbers.specs.Lists.{span}
use Rattle.build_theory.proofs.Steps.{rank}
use Rattle.build_theory.proofs.Orders.{lexical}

-- ---- what holds of every edge of a list

abbrev pub AllE : (Edge → Type 0) → List Edge → Type 0
AllE P [] = Unit {0}
AllE P (a ∷ l) = P a × AllE P l

pub all_map : (P Q : Edge → Type 0) → ((a : Edge) → P a → Q a) → (l : List Edge) → AllE P l → AllE Q l
all_map P Q f [] h = tt
all_map P Q f (a ∷ l) h = (f a h.0, all_map P Q f l h.1)

pub all_both : (P Q : Edge → Type 0) (l : List Edge) → AllE P l → AllE Q l → AllE (λ a. P a × Q a) l
all_both P Q [] h k = tt
all_both P Q (a ∷ l) h k = ((h.0, k.0), all_both P Q l h.1 k.1)

pub all_insert : (P : Edge → Type 0) (x : Edge) (l : List Edge) → P x → AllE P l → AllE P (insert x l)
unfolding insert
all_insert P x [] p h = (p, tt)
all_insert P x (y ∷ l) p h = pick (all_insert P x l p h.1) (before y x)
  where
    pick : AllE P (insert x l) → (b : Bool) → AllE P (put b x y l (insert x l))
    pick ih true = (h.0, ih)
    pick ih false = (p, h)

pub all_sorted : (P : Edge → Type 0) (l : List Edge) → AllE P l → AllE P (sort_edges l)
unfolding sort_edges
all_sorted P [] h = tt
all_sorted P (x ∷ l) h = all_insert P x (sort_edges l) h.0 (all_sorted P l h.1)

pub all_nonzero : (P : Edge → Type 0) (l : List Edge) → AllE P l → AllE P (nonzero l)
unfolding nonzero
all_nonzero P [] h = tt
all_nonzero P (a ∷ l) h = pick (all_nonzero P l h.1) (is_zero a.weight)
  where
    pick : AllE P (nonzero l) → (b : Bool) → AllE P (keep b a (nonzero l))
    pick ih true = ih
    pick ih false = (h.0, ih)

-- what is kept is not zero
pub all_kept : (l : List Edge) → AllE (λ a. is_zero a.weight ≡ false) (nonzero l)
unfolding nonzero
all_kept [] = tt
all_kept (a ∷ l) = pick (all_kept l) (is_zero a.weight) refl
  where
    pick : AllE (λ x. is_zero x.weight ≡ false) (nonzero l) → (b : Bool) → is_zero a.weight ≡ b → AllE (λ x. is_zero x.weight ≡ false) (keep b a (nonzero l))
    pick ih true e = ih
    pick ih false e = (e, ih)

pub all_span : (P : Edge → Type 0) (f : ℕ → Edge) (i k : ℕ) → ((j : ℕ) → i ≤ j → j < i + k → P (f j)) → AllE P (map f (span i k))
unfolding span
all_span P f i zero h = tt
all_span P f i (suc k) h = (h i (omega arith) (omega arith), all_span P f (suc i) k (λ j a b. h j (omega arith) (omega arith)))

-- ---- ranks

abbrev pub Small : Edge → Type 0
Small a = (a.label < 256) × (a.target < 2048)

before_rank : (a b : Edge) → Small a → Small b → before a b ≡ ltb (rank a) (rank b)
before_rank a b h k = lexical a.source a.label a.target b.source b.label b.target h.0 k.0 h.1 k.1

abbrev pub From : ℕ → List Edge → Type 0
From r l = AllE (λ a. r ≤ rank a) l

abbrev pub Up : List Edge → Type 0
Up [] = Unit {0}
Up (a ∷ l) = From (rank a) l × Up l

from_trans : (r s : ℕ) (l : List Edge) → r ≤ s → From s l → From r l
from_trans r s l h = all_map (λ a. s ≤ rank a) (λ a. r ≤ rank a) (λ a k. omega arith) l

insert_up : (x : Edge) (l : List Edge) → Small x → AllE Small l → Up l → Up (insert x l)
unfolding insert
insert_up x [] s h u = (tt, tt)
insert_up x (y ∷ l) s h u = pick (insert_up x l s h.1 u.1) (before y x) refl
  where
    pick : Up (insert x l) → (b : Bool) → before y x ≡ b → Up (put b x y l (insert x l))
    pick ih true e =
        let k : rank y < rank x = ltb-true (rank y) (rank x) (sym (before_rank y x h.0 s) ∙ e) in
        (all_insert (λ a. rank y ≤ rank a) x l (omega arith) u.0, ih)
    pick ih false e =
        let k : rank x ≤ rank y = ltb-false (rank y) (rank x) (sym (before_rank y x h.0 s) ∙ e) in
        ((k, from_trans (rank x) (rank y) l k u.0), u)

pub sort_up : (l : List Edge) → AllE Small l → Up (sort_edges l)
unfolding sort_edges
sort_up [] h = tt
sort_up (x ∷ l) h = insert_up x (sort_edges l) h.0 (all_sorted Small l h.1) (sort_up l h.1)

-- ---- runs: strictly rising

abbrev pub Above : ℕ → List Edge → Type 0
Above r l = AllE (λ a. r < rank a) l

abbrev pub Strict : List Edge → Type 0
Strict [] = Unit {0}
Strict (a ∷ l) = Above (rank a) l × Strict l

-- what holds of triples
abbrev pub Of : (ℕ → ℕ → ℕ → Type 0) → Edge → Type 0
Of P a = P a.source a.label a.target

pub all_runs : (P : ℕ → ℕ → ℕ → Type 0) (a : Edge) (xs : List Edge) → Of P a → AllE (Of P) xs → AllE (Of P) (runs a xs)
unfolding runs
all_runs P a [] p h = (p, tt)
all_runs P a (x ∷ xs) p h = pick (same a x) (λ y q. all_runs P y xs q h.1)
  where
    pick : (b : Bool) → ((y : Edge) → Of P y → AllE (Of P) (runs y xs)) → AllE (Of P) (ended b a (runs (taken b a x) xs))
    pick true ih = ih (taken true a x) p
    pick false ih = (p, ih x h.0)

pub all_join : (P : ℕ → ℕ → ℕ → Type 0) (xs : List Edge) → AllE (Of P) xs → AllE (Of P) (join xs)
unfolding join
all_join P [] h = tt
all_join P (x ∷ xs) h = all_runs P x xs h.0 h.1

abbrev ranked : ℕ → ℕ → ℕ → ℕ
ranked s l t = s * 524288 + l * 2048 + t

same_eq : (a b : Edge) → rank a ≡ rank b → Small a → Small b → same a b ≡ true
same_eq a b e h k =
    let (p, q, r) = parts a.source a.label a.target b.source b.label b.target h.0 k.0 h.1 k.1 e in
    rw (eq-eqb a.source b.source p, eq-eqb a.label b.label q, eq-eqb a.target b.target r)
  where
    parts : (s l t s' l' t' : ℕ) → l < 256 → l' < 256 → t < 2048 → t' < 2048 → ranked s l t ≡ ranked s' l' t' → (s ≡ s') × (l ≡ l') × (t ≡ t')
    parts s l t s' l' t' h k m n e = (omega arith, omega arith, omega arith)

runs_strict : (a : Edge) (xs : List Edge) → Small a → AllE Small xs → From (rank a) xs → Up xs → Strict (runs a xs)
unfolding runs
runs_strict a [] s h f u = (tt, tt)
runs_strict a (x ∷ xs) s h f u =
    pick (same a x) refl (runs_strict (taken true a x) xs s h.1 f.1 u.1) (runs_strict x xs h.0 h.1 u.0 u.1)
  where
    pick : (b : Bool) → same a x ≡ b → Strict (runs (taken true a x) xs) → Strict (runs x xs) → Strict (ended b a (runs (taken b a x) xs))
    pick true e p q = p
    pick false e p q =
        let k : rank a < rank x = apart (ltb (rank a) (rank x)) refl in
        (all_runs (λ s l t. rank a < ranked s l t) x xs k (all_map (λ y. rank x ≤ rank y) (λ y. rank a < rank y) (λ y z. omega arith) xs u.0), q)
      where
        apart : (t : Bool) → ltb (rank a) (rank x) ≡ t → rank a < rank x
        apart true z = ltb-true (rank a) (rank x) z
        apart false z =
            let g = ltb-false (rank a) (rank x) z in
            let l = f.0 in
            absurd (true≢false (sym (same_eq a x (omega arith) s h.0) ∙ e))

pub join_strict : (xs : List Edge) → AllE Small xs → Up xs → Strict (join xs)
unfolding join
join_strict [] h u = tt
join_strict (x ∷ xs) h u = runs_strict x xs h.0 h.1 u.0 u.1

pub nonzero_strict : (l : List Edge) → Strict l → Strict (nonzero l)
unfolding nonzero
nonzero_strict [] s = tt
nonzero_strict (a ∷ l) s = pick (nonzero_strict l s.1) (is_zero a.weight)
  where
    pick : Strict (nonzero l) → (b : Bool) → Strict (keep b a (nonzero l))
    pick ih true = ih
    pick ih false = (all_nonzero (λ x. rank a < rank x) l s.0, ih)
