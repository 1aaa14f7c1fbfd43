-- The jump targets of a state: they rise, so they are distinct; they are targets of the state's edges, itself left out; and there are no more of them than distinct such targets.
-- Each edge in order is added at its place, so by induction over the edges; a target that is known adds no jump.
use mathlib.Core.Path.{◌≡◌, refl, sym, subst⁻¹, ap, ◌∙◌}
use Prim.Native.Nat.{ℕ, suc, ◌≤◌, ◌<◌, ◌+◌}
use mathlib.Core.Bool.{Bool, true, false}
use mathlib.Core.Logic.{◌≢◌, ◌⊎◌, inl, inr}
use mathlib.Core.List.{List, [], ◌∷◌, ◌++◌, map}
use native.Mathlib.Omega.{arith}
use lib.Dec.{eqb, ltb}
use lib.Ieee.{Float}
use lib.ListN.{length, length-append}
use borrow.Author.Tests.{ltb-true, ltb-false, eqb-true, eqb-false, eq-eqb}
use Rattle.numbers.specs.Search.{seek, here}
use Rattle.numbers.proofs.Bools.{lt_or_ge}
use Rattle.numbers.specs.Lists.{In}
use Rattle.numbers.proofs.Members.{in_snoc}
use Rattle.bisim_core.specs.Data.{Edge}
use Rattle.bisim_core.specs.Ids.{intern, distinct}
use Rattle.bisim_core.specs.Edges.{others}
use Rattle.bisim_core.proofs.Distinct.{intern_old, intern_new}
use Rattle.epsdelta_theory.specs.Jumps.{Jump, add_here, add_rate, add_edge, add_edges, targets, divided}

-- ---- they rise

abbrev pub Above : ℕ → List ℕ → Type 0
Above u [] = Unit {0}
Above u (x ∷ xs) = (u < x) × Above u xs

abbrev pub Rising : List ℕ → Type 0
Rising [] = Unit {0}
Rising (x ∷ xs) = Above x xs × Rising xs

above_less : (u v : ℕ) (xs : List ℕ) → u < v → Above v xs → Above u xs
above_less u v [] h a = tt
above_less u v (x ∷ xs) h (p, a) = (omega arith, above_less u v xs h a)

above_in : (u x : ℕ) (xs : List ℕ) → Above u xs → In x xs → u < x
above_in u x (y ∷ xs) (p, a) (inl e) = omega arith
above_in u x (y ∷ xs) (p, a) (inr i) = above_in u x xs a i
above_in u x [] _ x4 = elim x4 [ ]

-- `add_rate` behind its first test
abbrev added : ℕ → Float → Jump → List Jump → Bool → List Jump
added t w j js b = elim b as (λ z. List Jump) [ true ↦ j ∷ add_rate t w js | false ↦ add_here (eqb j.target t) t w j js ]

here_above : (u t : ℕ) (w : Float) (j : Jump) (js : List Jump) (b : Bool) → u < t → Above u (targets (j ∷ js)) → Above u (targets (add_here b t w j js))
unfolding add_here
here_above u t w j js true h a = a
here_above u t w j js false h a = (h, a)

rate_above : (u t : ℕ) (w : Float) (js : List Jump) → u < t → Above u (targets js) → Above u (targets (add_rate t w js))
unfolding add_rate
rate_above u t w [] h a = (h, tt)
rate_above u t w (j ∷ js) h (p, a) = pick (rate_above u t w js h a) (ltb j.target t)
  where
    pick : Above u (targets (add_rate t w js)) → (b : Bool) → Above u (targets (added t w j js b))
    pick r true = (p, r)
    pick r false = here_above u t w j js (eqb j.target t) h (p, a)

here_rising : (t : ℕ) (w : Float) (j : Jump) (js : List Jump) (b : Bool) → eqb j.target t ≡ b → t ≤ j.target → Rising (targets (j ∷ js)) → Rising (targets (add_here b t w j js))
unfolding add_here
here_rising t w j js true e h r = r
here_rising t w j js false e h (a, r) =
    let n : j.target ≢ t = eqb-false _ _ e in
    let l : t < j.target = omega arith in
    ((l, above_less t j.target (targets js) l a), (a, r))

rate_rising : (t : ℕ) (w : Float) (js : List Jump) → Rising (targets js) → Rising (targets (add_rate t w js))
unfolding add_rate
rate_rising t w [] r = (tt, tt)
rate_rising t w (j ∷ js) (a, r) = pick (rate_rising t w js r) (ltb j.target t) refl
  where
    pick : Rising (targets (add_rate t w js)) → (b : Bool) → ltb j.target t ≡ b → Rising (targets (added t w j js b))
    pick i true e = (rate_above j.target t w js (ltb-true _ _ e) a, i)
    pick i false e = here_rising t w j js (eqb j.target t) refl (ltb-false _ _ e) (a, r)

edge_rising : (b : Bool) (off : ℕ) (e : Edge) (js : List Jump) → Rising (targets js) → Rising (targets (add_edge b off e js))
unfolding add_edge
edge_rising true off e js r = r
edge_rising false off e js r = rate_rising (off + e.target) e.weight js r

pub edges_rising : (off : ℕ) (es : List Edge) (js : List Jump) → Rising (targets js) → Rising (targets (add_edges off es js))
unfolding add_edges
edges_rising off [] js r = r
edges_rising off (e ∷ es) js r = edges_rising off es (add_edge (eqb e.target e.source) off e js) (edge_rising (eqb e.target e.source) off e js r)

-- ---- they are the targets of the edges, self-loops aside

abbrev pub EdgeTo : ℕ → ℕ → List Edge → Type 0
EdgeTo off x [] = ⊥
EdgeTo off x (e ∷ es) = ((e.target ≢ e.source) × (x ≡ off + e.target)) ⊎ EdgeTo off x es

here_new : (t : ℕ) (w : Float) (j : Jump) (js : List Jump) (b : Bool) → eqb j.target t ≡ b → In t (targets (add_here b t w j js))
unfolding add_here
here_new t w j js true e = inl (sym (eqb-true _ _ e))
here_new t w j js false e = inl refl

here_old : (x t : ℕ) (w : Float) (j : Jump) (js : List Jump) (b : Bool) → In x (targets (j ∷ js)) → In x (targets (add_here b t w j js))
unfolding add_here
here_old x t w j js true i = i
here_old x t w j js false i = inr i

here_only : (x t : ℕ) (w : Float) (j : Jump) (js : List Jump) (b : Bool) → In x (targets (add_here b t w j js)) → (x ≡ t) ⊎ In x (targets (j ∷ js))
unfolding add_here
here_only x t w j js true i = inr i
here_only x t w j js false (inl e) = inl e
here_only x t w j js false (inr i) = inr i

rate_new : (t : ℕ) (w : Float) (js : List Jump) → In t (targets (add_rate t w js))
unfolding add_rate
rate_new t w [] = inl refl
rate_new t w (j ∷ js) = pick (rate_new t w js) (ltb j.target t)
  where
    pick : In t (targets (add_rate t w js)) → (b : Bool) → In t (targets (added t w j js b))
    pick i true = inr i
    pick i false = here_new t w j js (eqb j.target t) refl

rate_old : (x t : ℕ) (w : Float) (js : List Jump) → In x (targets js) → In x (targets (add_rate t w js))
unfolding add_rate
rate_old x t w (j ∷ js) h = pick (λ i. rate_old x t w js i) h (ltb j.target t)
  where
    pick : (In x (targets js) → In x (targets (add_rate t w js))) → In x (targets (j ∷ js)) → (b : Bool) → In x (targets (added t w j js b))
    pick r (inl e) true = inl e
    pick r (inr i) true = inr (r i)
    pick r i false = here_old x t w j js (eqb j.target t) i
rate_old x t w [] h = elim h [ ]

rate_only : (x t : ℕ) (w : Float) (js : List Jump) → In x (targets (add_rate t w js)) → (x ≡ t) ⊎ In x (targets js)
unfolding add_rate
rate_only x t w [] (inl e) = inl e
rate_only x t w (j ∷ js) h = pick (rate_only x t w js) (ltb j.target t) h
  where
    on : (x ≡ t) ⊎ In x (targets js) → (x ≡ t) ⊎ In x (targets (j ∷ js))
    on (inl e) = inl e
    on (inr i) = inr (inr i)

    pick : (In x (targets (add_rate t w js)) → (x ≡ t) ⊎ In x (targets js)) → (b : Bool) → In x (targets (added t w j js b)) → (x ≡ t) ⊎ In x (targets (j ∷ js))
    pick r true (inl e) = inr (inl e)
    pick r true (inr i) = on (r i)
    pick r false i = here_only x t w j js (eqb j.target t) i
rate_only x t w [] (inr x3) = elim x3 [ ]

edge_old : (x off : ℕ) (e : Edge) (js : List Jump) (b : Bool) → In x (targets js) → In x (targets (add_edge b off e js))
unfolding add_edge
edge_old x off e js true i = i
edge_old x off e js false i = rate_old x (off + e.target) e.weight js i

edge_new : (off : ℕ) (e : Edge) (js : List Jump) (b : Bool) → eqb e.target e.source ≡ b → e.target ≢ e.source → In (off + e.target) (targets (add_edge b off e js))
unfolding add_edge
edge_new off e js true q n = absurd (n (eqb-true _ _ q))
edge_new off e js false q n = rate_new (off + e.target) e.weight js

edge_only : (x off : ℕ) (e : Edge) (js : List Jump) (b : Bool) → eqb e.target e.source ≡ b → In x (targets (add_edge b off e js))
    → ((e.target ≢ e.source) × (x ≡ off + e.target)) ⊎ In x (targets js)
unfolding add_edge
edge_only x off e js true q i = inr i
edge_only x off e js false q i = pick (rate_only x (off + e.target) e.weight js i)
  where
    pick : (x ≡ off + e.target) ⊎ In x (targets js) → ((e.target ≢ e.source) × (x ≡ off + e.target)) ⊎ In x (targets js)
    pick (inl p) = inl (eqb-false _ _ q, p)
    pick (inr k) = inr k

pub edges_have : (x off : ℕ) (es : List Edge) (js : List Jump) → EdgeTo off x es ⊎ In x (targets js) → In x (targets (add_edges off es js))
unfolding add_edges
edges_have x off [] js (inr i) = i
edges_have x off (e ∷ es) js (inl (inl (n, p))) =
    let b = eqb e.target e.source in
    edges_have x off es (add_edge b off e js) (inr (subst⁻¹ (λ (y : ℕ). In y (targets (add_edge b off e js))) p (edge_new off e js b refl n)))
edges_have x off (e ∷ es) js (inl (inr m)) = edges_have x off es (add_edge (eqb e.target e.source) off e js) (inl m)
edges_have x off (e ∷ es) js (inr i) = edges_have x off es (add_edge (eqb e.target e.source) off e js) (inr (edge_old x off e js (eqb e.target e.source) i))
edges_have x off [] js (inl x3) = elim x3 [ ]

pub edges_only : (x off : ℕ) (es : List Edge) (js : List Jump) → In x (targets (add_edges off es js)) → EdgeTo off x es ⊎ In x (targets js)
unfolding add_edges
edges_only x off [] js i = inr i
edges_only x off (e ∷ es) js i = pick (edges_only x off es (add_edge (eqb e.target e.source) off e js) i)
  where
    then : ((e.target ≢ e.source) × (x ≡ off + e.target)) ⊎ In x (targets js) → EdgeTo off x (e ∷ es) ⊎ In x (targets js)
    then (inl m) = inl (inl m)
    then (inr k) = inr k

    pick : EdgeTo off x es ⊎ In x (targets (add_edge (eqb e.target e.source) off e js)) → EdgeTo off x (e ∷ es) ⊎ In x (targets js)
    pick (inl m) = inl (inr m)
    pick (inr k) = then (edge_only x off e js (eqb e.target e.source) refl k)

-- ---- how many they are

here_length : (t : ℕ) (w : Float) (j : Jump) (js : List Jump) (b : Bool) → length (add_here b t w j js) ≤ suc (suc (length js))
unfolding add_here
here_length t w j js true = omega arith
here_length t w j js false = omega arith

rate_length : (t : ℕ) (w : Float) (js : List Jump) → length (add_rate t w js) ≤ suc (length js)
unfolding add_rate
rate_length t w [] = omega arith
rate_length t w (j ∷ js) = pick (rate_length t w js) (ltb j.target t)
  where
    pick : length (add_rate t w js) ≤ suc (length js) → (b : Bool) → length (added t w j js b) ≤ suc (suc (length js))
    pick r true = omega arith
    pick r false = here_length t w j js (eqb j.target t)

-- a target that is there adds none
here_same : (t : ℕ) (w : Float) (j : Jump) (js : List Jump) (b : Bool) → eqb j.target t ≡ b → t ≤ j.target → Above j.target (targets js) → In t (targets (j ∷ js))
    → length (add_here b t w j js) ≡ suc (length js)
unfolding add_here
here_same t w j js true e h a i = refl
here_same t w j js false e h a (inl p) = absurd (eqb-false _ _ e (sym p))
here_same t w j js false e h a (inr i) = let l = above_in j.target t (targets js) a i in absurd (omega arith)

rate_same : (t : ℕ) (w : Float) (js : List Jump) → Rising (targets js) → In t (targets js) → length (add_rate t w js) ≡ length js
unfolding add_rate
rate_same t w (j ∷ js) (a, r) h = pick (rate_same t w js r) h (ltb j.target t) refl
  where
    pick : (In t (targets js) → length (add_rate t w js) ≡ length js) → In t (targets (j ∷ js)) → (b : Bool) → ltb j.target t ≡ b → length (added t w j js b) ≡ suc (length js)
    pick f (inl p) true e = let l : j.target < t = ltb-true _ _ e in absurd (omega arith)
    pick f (inr i) true e = ap suc (f i)
    pick f i false e = here_same t w j js (eqb j.target t) refl (ltb-false _ _ e) a i
rate_same t w [] _ h = elim h [ ]

-- what is found is in the list
seek_in : (x : ℕ) (l : List ℕ) → seek x l < length l → In x l
unfolding seek
seek_in x [] h = absurd (omega arith)
seek_in x (y ∷ l) h = pick (seek_in x l) (eqb y x) refl h
  where
    pick : (seek x l < length l → In x l) → (b : Bool) → eqb y x ≡ b → here b (seek x l) < suc (length l) → In x (y ∷ l)
    pick r true e k = inl (sym (eqb-true _ _ e))
    pick r false e k = inr (r (omega arith))

-- every edge leaves s
abbrev pub From : ℕ → List Edge → Type 0
From s [] = Unit {0}
From s (e ∷ es) = (e.source ≡ s) × From s es

-- no more jumps than targets known, and a jump to each of these
abbrev Covers : ℕ → List Jump → List ℕ → Type 0
Covers off js known = (length js ≤ length known) × Rising (targets js) × ((x : ℕ) → In x known → In (off + x) (targets js))

covers_more : (off x : ℕ) (w : Float) (js : List Jump) (known xs : List ℕ) (n : ℕ) → Covers off js known
    → ((known' : List ℕ) → Covers off (add_rate (off + x) w js) known' → n ≤ length (intern known' xs))
    → n ≤ length (intern known (x ∷ xs))
covers_more off x w js known xs n (l, r, c) f = pick (lt_or_ge (seek x known) (length known))
  where
    known_one : (y : ℕ) → In y known ⊎ (y ≡ x) → In (off + y) (targets (add_rate (off + x) w js))
    known_one y (inl i) = rate_old (off + y) (off + x) w js (c y i)
    known_one y (inr e) = subst⁻¹ (λ (z : ℕ). In (off + z) (targets (add_rate (off + x) w js))) e (rate_new (off + x) w js)

    pick : (seek x known < length known) ⊎ (length known ≤ seek x known) → n ≤ length (intern known (x ∷ xs))
    pick (inl g) =
        let i = c x (seek_in x known g) in
        let s = rate_same (off + x) w js r i in
        rw (intern_old known x xs g) (f known (omega arith, rate_rising (off + x) w js r, λ y k. rate_old (off + y) (off + x) w js (c y k)))
    pick (inr g) =
        let s = rate_length (off + x) w js in
        let m = length-append known (x ∷ []) in
        rw (intern_new known x xs g) (f (known ++ (x ∷ [])) (omega arith, rate_rising (off + x) w js r, λ y k. known_one y (in_snoc y x known k)))

edges_most : (off s : ℕ) (es : List Edge) (js : List Jump) (known : List ℕ) → From s es → Covers off js known → length (add_edges off es js) ≤ length (intern known (others s es))
unfolding add_edges add_edge others intern
edges_most off s [] js known f (l, r, c) = l
edges_most off s (e ∷ es) js known (p, f) v = pick (λ js' known' v'. edges_most off s es js' known' f v') (eqb e.target s) refl
  where
    left : eqb e.source s ≡ true
    left = eq-eqb _ _ p

    pick : ((js' : List Jump) (known' : List ℕ) → Covers off js' known' → length (add_edges off es js') ≤ length (intern known' (others s es)))
        → (b : Bool) → eqb e.target s ≡ b → length (add_edges off (e ∷ es) js) ≤ length (intern known (others s (e ∷ es)))
    pick i true q = rw (ap (eqb e.target) p ∙ q, left, q) (i js known v)
    pick i false q = rw (ap (eqb e.target) p ∙ q, left, q)
        (covers_more off e.target e.weight js known (others s es) _ v (λ known' v'. i (add_rate (off + e.target) e.weight js) known' v'))

-- the jumps of a state are no more than its distinct targets other than itself
pub edges_few : (off s : ℕ) (es : List Edge) → From s es → length (add_edges off es []) ≤ length (distinct (others s es))
edges_few off s es f = edges_most off s es [] [] f (omega arith, tt, λ x i. absurd i)

-- ---- dividing keeps them

pub divided_targets : (x : Float) (js : List Jump) → targets (map (divided x) js) ≡ targets js
divided_targets x [] = refl
divided_targets x (j ∷ js) = ap (λ (l : List ℕ). j.target ∷ l) (divided_targets x js)
