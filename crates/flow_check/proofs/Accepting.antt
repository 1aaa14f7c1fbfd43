-- What the check of refusal 15 decides.
use mathlib.Core.Path.{◌≡◌, refl, sym, ap, subst⁻¹}
use mathlib.Core.Logic.{◌≢◌, ◌⊎◌, inl, inr}
use mathlib.Core.Bool.{true, false, not, false≢true}
use Prim.Native.Nat.{ℕ, suc, ◌+◌, ◌/◌, ◌%◌, ◌≤◌, ◌<◌}
use mathlib.Core.List.{List}
use native.Mathlib.Omega.{arith}
use lib.Dec.{T, eqb, ltb, leb, leb→le}
use lib.ListN.{length, get_or}
use lib.Ieee.{Float, fin, inf, nan, le, eq}
use Rattle.flow_theory.specs.Network.{head, rev, left, node_lists}
use Rattle.numbers.specs.Real.{nought, greatest_weight}
use Rattle.flow_theory.proofs.Accepted.{Accepted}
use Rattle.numbers.proofs.Bools.{t_of, and_t, eq_or_ne, or_t}
use borrow.Author.Tests.{eqb-true, eqb-false, eq-eqb, ltb-true, not-true}
use Rattle.flow_theory.proofs.Theorem.{accepted_good, accepted_caps}
use Rattle.flow_theory.specs.Rows.{network, starts_of, list_of}
use Rattle.flow_theory.proofs.RunRows.{Runnable}
use Rattle.flow_theory.proofs.ListRows.{Indexable}
use Rattle.flow_check.specs.Refusal.{cap_fits, edge_fits, pair_fits, few, sizes_fit, links_fit, lists_fit, same_rows, network_fits, leaves_finite, ends_fit, accepts}
use Rattle.flow_theory.proofs.Outs.{network_nodes}
use Rattle.numbers.proofs.Alls.{every_at}
use Rattle.flow_check.proofs.Laying.{laid}

leb_t : {m n : ℕ} → leb m n ≡ true → m ≤ n
leb_t {m} {n} h = leb→le m n (t_of h)

-- ---- sizes

pub record Sized (n h c p l : ℕ) : Type 0 where
  pub few : n ≤ 66
  pub small : h ≤ 2176
  pub even : h % 2 ≡ 0
  pub caps : c ≡ h
  pub costs : p ≡ h
  pub list : h ≤ l

pub counts : (n h : ℕ) → few n h ≡ true → (n ≤ 66) × ((h ≤ 2176) × (h % 2 ≡ 0))
counts n h t =
    let (a, r) = and_t (leb n 66) _ t in
    let (b, d) = and_t (leb h 2176) _ r in
    (leb_t a, (leb_t b, (eqb-true _ _) d))

pub sized : (n h c p l : ℕ) → sizes_fit n h c p l ≡ true → Sized n h c p l
sized n h c p l t =
    let (a, r) = and_t (few n h) _ t in
    let (e, q) = and_t (eqb c h) _ r in
    let (f, g) = and_t (eqb p h) _ q in
    let k = counts n h a in
    record { few = k.0; small = k.1.0; even = k.1.1; caps = (eqb-true _ _) e; costs = (eqb-true _ _) f; list = leb_t g }

-- ---- links

pub is_infinite : (x : Float) → eq x (inf false) ≡ true → x ≡ inf false
unfolding eq
is_infinite nan h = absurd (false≢true h)
is_infinite (inf true) h = absurd (false≢true h)
is_infinite (inf false) h = refl
is_infinite (fin s m e) h = absurd (false≢true h)

pub infinite_is : (x : Float) → x ≡ inf false → eq x (inf false) ≡ true
unfolding eq
infinite_is x q = ap (λ (y : Float). eq y (inf false)) q

abbrev Range : Float → Type 0
Range x = T (le nought x) × (T (le x greatest_weight) ⊎ (x ≡ inf false))

in_range : (x : Float) → cap_fits x ≡ true → Range x
in_range x h = let (a, b) = and_t (le nought x) _ h in (t_of a, pick (or_t (le x greatest_weight) _ b))
  where
    pick : (le x greatest_weight ≡ true) ⊎ (eq x (inf false) ≡ true) → T (le x greatest_weight) ⊎ (x ≡ inf false)
    pick (inl l) = inl (t_of l)
    pick (inr q) = inr (is_infinite x q)

-- the head is a node, and the capacity admissible
pub record Linked (n h : ℕ) (x : Float) : Type 0 where
  pub head_in : h < n
  pub range : Range x

-- an even number, or the next
halves : (e : ℕ) → (e ≡ e / 2 + e / 2) ⊎ (e ≡ e / 2 + e / 2 + 1)
halves e = pick (eq_or_ne (e % 2) 0)
  where
    pick : (e % 2 ≡ 0) ⊎ (e % 2 ≢ 0) → (e ≡ e / 2 + e / 2) ⊎ (e ≡ e / 2 + e / 2 + 1)
    pick (inl q) = inl (omega arith)
    pick (inr d) = inr (omega arith)

module _ (H : List ℕ) (c p : List Float) (n : ℕ) (even : length H % 2 ≡ 0) (f : links_fit H c p n ≡ true) where
  abbrev Fit : ℕ → Type 0
  Fit e = Linked n (get_or H e 0) (get_or c e nan)

  pair : (k : ℕ) → k < length H / 2 → Fit (k + k) × Fit (k + k + 1)
  pair k h =
      let (a, b) = and_t (edge_fits n (get_or H (k + k + 1) 0) (get_or H (k + k) 0) (get_or c (k + k) nan) (get_or p (k + k) nan)) _ (every_at (pair_fits H c p n) (length H / 2) f k h) in
      let (from, r) = and_t (ltb (get_or H (k + k + 1) 0) n) _ a in
      let (to, q) = and_t (ltb (get_or H (k + k) 0) n) _ r in
      let (x, _) = and_t (cap_fits (get_or c (k + k) nan)) _ q in
      let (y, _) = and_t (cap_fits (get_or c (k + k + 1) nan)) _ b in
      (record { head_in = ltb-true _ _ to; range = in_range _ x }, record { head_in = ltb-true _ _ from; range = in_range _ y })

  pub each : (e : ℕ) → e < length H → Fit e
  each e h = pick (halves e) (pair (e / 2) (omega arith))
    where
      pick : (e ≡ e / 2 + e / 2) ⊎ (e ≡ e / 2 + e / 2 + 1) → Fit (e / 2 + e / 2) × Fit (e / 2 + e / 2 + 1) → Fit e
      pick (inl q) P = subst⁻¹ Fit q P.0
      pick (inr q) P = subst⁻¹ Fit q P.1

-- ---- source and sink

pub reverse_there : (e m : ℕ) → m % 2 ≡ 0 → e < m → rev e < m
unfolding rev
reverse_there e m p h = omega arith

pub record Ends (H : List ℕ) (c : List Float) (n s t : ℕ) : Type 0 where
  pub source_in : s < n
  pub sink_in : t < n
  pub apart : s ≢ t
  pub finite : (e : ℕ) → e < length H → get_or H (rev e) 0 ≡ s → get_or c e nan ≢ inf false

pub ends : (H : List ℕ) (c : List Float) (n s t : ℕ) → ends_fit H c n s t ≡ true → Ends H c n s t
ends H c n s t h =
    let (a, r) = and_t (ltb s n) _ h in
    let (b, q) = and_t (ltb t n) _ r in
    let (d, f) = and_t (not (eqb s t)) _ q in
    record {
      source_in = ltb-true _ _ a;
      sink_in = ltb-true _ _ b;
      apart = eqb-false _ _ (not-true (eqb s t) d);
      finite = λ e k x y. false≢true (rw (eq-eqb _ _ x, infinite_is _ y) at (every_at (λ i. leaves_finite s (get_or H (rev i) 0) (get_or c i nan)) (length H) f e k));
    }

-- ---- the whole check

-- links that fit can be indexed
pub indexable : (H : List ℕ) (c p : List Float) (n : ℕ) {k m l : ℕ} → Sized n (length H) k m l → links_fit H c p n ≡ true → Indexable H n
indexable H c p n S f = record { added = length H / 2; pairs = let e = S.even in omega arith; small = S.small; heads_in = λ e h. (each H c p n S.even f e h).head_in }

pub record Parts (H : List ℕ) (c p : List Float) (starts list : List ℕ) (n : ℕ) : Type 0 where
  pub sizes : Sized n (length H) (length c) (length p) (length list)
  pub links : links_fit H c p n ≡ true
  pub lists : lists_fit H n starts list ≡ true

pub fitting : (H : List ℕ) (c p : List Float) (starts list : List ℕ) (n : ℕ) → network_fits H c p starts list n ≡ true → Parts H c p starts list n
fitting H c p starts list n F =
    let (a, r) = and_t (sizes_fit n (length H) (length c) (length p) (length list)) _ F in
    let (b, d) = and_t (links_fit H c p n) _ r in
    record { sizes = sized n _ _ _ _ a; links = b; lists = d }

module _ (H : List ℕ) (c p : List Float) (starts list : List ℕ) (n s t : ℕ) (A : accepts H c p starts list n s t ≡ true) where
  parts : Parts H c p starts list n
  parts = fitting H c p starts list n (and_t (network_fits H c p starts list n) _ A).0

  sizes_are : Sized n (length H) (length c) (length p) (length list)
  sizes_are = parts.sizes

  ends_are : Ends H c n s t
  ends_are = ends H c n s t (and_t (network_fits H c p starts list n) _ A).1

  link : (e : ℕ) → e < length H → Linked n (get_or H e 0) (get_or c e nan)
  link = each H c p n sizes_are.even parts.links

  -- a network that is not refused is accepted by the theorem of every run
  pub accepted : Accepted (network H n s t) c (length H / 2)
  unfolding head left
  accepted =
      let z = sizes_are in
      record {
        few = rw (network_nodes H n) z.few;
        small = let l = z.small in omega arith;
        pairs = let l = z.even in omega arith;
        size = z.caps;
        heads_in = λ e h. rw (network_nodes H n) (link e h).head_in;
        source_in = rw (network_nodes H n) ends_are.source_in;
        sink_in = rw (network_nodes H n) ends_are.sink_in;
        ends = ends_are.apart;
        range = λ e h. (link e h).range;
        finite = λ e h q. ends_are.finite e h q;
        lists = ap (λ (m : ℕ). node_lists H m (length H)) (sym (network_nodes H n));
      }

  rows_are : (same_rows (suc n) starts (starts_of H n) ≡ true) × (same_rows (length H) list (list_of H n) ≡ true)
  rows_are = and_t (same_rows (suc n) starts (starts_of H n)) _ parts.lists

  pub runs : Runnable (network H n s t) starts list c
  runs =
      let K = indexable H c p n sizes_are parts.links in
      record {
        good = accepted_good (network H n s t) c (length H / 2) accepted;
        laid = laid K starts list sizes_are.list rows_are.0 rows_are.1 s t sizes_are.few;
        caps = accepted_caps (network H n s t) c (length H / 2) accepted;
        sink_in = accepted.sink_in;
        small = sizes_are.small;
      }
