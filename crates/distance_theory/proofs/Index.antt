-- The index of the pairs, as the code has it: each pair with its number as one code, the codes rising, searched by halves.
use mathlib.Core.Path.{◌≡◌, refl, sym, subst, subst⁻¹, ap, ap₂, ◌∙◌}
use mathlib.Core.Logic.{◌⊎◌, inl, inr, ◌≢◌}
use Prim.Native.Nat.{ℕ, zero, suc, ◌≤◌, ◌<◌, ◌+◌, ◌*◌, ◌-◌, ◌/◌, ◌%◌}
use mathlib.Core.Bool.{Bool, true, false, ◌&&◌}
use mathlib.Core.List.{List, [], ◌∷◌, ◌++◌, append-nil}
use native.Mathlib.Omega.{arith}
use native.Mathlib.Nat.{le_of_suc-le-suc, not-suc-le-zero}
use lib.Dec.{eqb, ltb}
use lib.ListN.{length, get_or}
use borrow.Author.Tests.{ltb-true, lt-ltb, le-ltb, eqb-true, eq-eqb}
use Rattle.numbers.specs.Lists.{In}
use Rattle.numbers.specs.Sort.{put, insert, sort}
use Rattle.numbers.proofs.Bools.{and_t, and_first, and_second, lt_or_ge, eq_or_ne}
use Rattle.std.specs.Prelude.{Option, None, unwrap_or}
use Rattle.std.specs.Bool.{then_some}
use Rattle.numbers.proofs.Members.{Apart, in_at, at_in}
use Rattle.numbers.proofs.Sorts.{All, Sorted, sort_sorted, sort_length, sort_mid, all_sort, all_at, sorted_at}
use Rattle.distance_theory.specs.Pairs.{Pair, pair, pair_at, place, most}
use Rattle.distance_theory.proofs.Inside.{AllOf}
use Rattle.distance_theory.proofs.Explore.{place_in, place_at, place_of, place_none}

-- ---- codes

-- a pair as one number; its right state is below 2,048
abbrev pub key : Pair → ℕ
key p = p.left * 2048 + p.right

-- 2,049 × 2^32: above the keys of all pairs of u32
abbrev pub past_keys : ℕ
past_keys = 8800387989504

-- pair p, which is number k
abbrev pub code : Pair → ℕ → ℕ
code p k = key p * 4096 + k

-- pairs from number k on
unfoldable pub codes : ℕ → List Pair → List ℕ
codes k [] = []
codes k (p ∷ ps) = code p k ∷ codes (suc k) ps

-- the codes of some pairs, rising
unfoldable pub index : List Pair → List ℕ
unfolding codes sort
index found = sort (codes 0 found)

-- ---- the search

-- 1 where code c is below those of key k, else 0
unfoldable pub below : ℕ → ℕ → ℕ
below c k = elim (ltb (c / 4096) k) [ true ↦ 1 | false ↦ 0 ]

-- where the codes of key k go in a list that rises, among n places from lo on: the larger half is passed by or not, at most f times
unfoldable pub narrow : ℕ → List ℕ → ℕ → ℕ → ℕ → ℕ
unfolding below
narrow zero l k lo n = lo
narrow (suc f) l k lo n = elim (ltb 0 n) [ true ↦ narrow f l k (lo + (n - n / 2) * below (get_or l (lo + (n - n / 2) - 1) 0) k) (n / 2) | false ↦ lo ]

unfoldable pub keyed : List ℕ → ℕ → ℕ
unfolding narrow
keyed l k = narrow (length l) l k 0 (length l)

-- there is a code at place i, and it is one of key k
abbrev pub is_at : List ℕ → ℕ → ℕ → Bool
is_at l i k = ltb i (length l) && eqb (get_or l i 0 / 4096) k

abbrev pub number_if : Bool → ℕ → ℕ → ℕ
number_if true c n = c % 4096
number_if false c n = n

-- the number of a pair, none if no code is its own
unfoldable pub looked : List ℕ → Pair → Option ℕ
unfolding keyed
looked l p = let at = keyed l (key p) in then_some (ltb p.right 2048 && is_at l at (key p)) (get_or l at 0 % 4096)

-- the same: how many codes there are if none is its own
unfoldable pub look_up : List ℕ → Pair → ℕ
unfolding keyed
look_up l p = let at = keyed l (key p) in number_if (ltb p.right 2048 && is_at l at (key p)) (get_or l at 0) (length l)

-- ---- the search goes on, or ends

pub below_lt : (c k : ℕ) → c / 4096 < k → below c k ≡ 1
unfolding below
below_lt c k h = rw (lt-ltb (c / 4096) k h, below)

pub below_ge : (c k : ℕ) → k ≤ c / 4096 → below c k ≡ 0
unfolding below
below_ge c k h = rw (le-ltb (c / 4096) k h, below)

-- the sign of a difference
pub below_sign : (c k : ℕ) → c < 18446744073709551616 → k ≤ past_keys → (k + 9223372036854775807 - c / 4096) / 9223372036854775808 ≡ below c k
below_sign c k g h = pick (lt_or_ge (c / 4096) k)
  where
    pick : (c / 4096 < k) ⊎ (k ≤ c / 4096) → (k + 9223372036854775807 - c / 4096) / 9223372036854775808 ≡ below c k
    pick (inl t) = let e : (k + 9223372036854775807 - c / 4096) / 9223372036854775808 ≡ 1 = omega arith in e ∙ sym (below_lt c k t)
    pick (inr t) = let e : (k + 9223372036854775807 - c / 4096) / 9223372036854775808 ≡ 0 = omega arith in e ∙ sym (below_ge c k t)

module _ (l : List ℕ) (k : ℕ) where
  narrow_on : (f lo n : ℕ) → 0 < n → narrow (suc f) l k lo n ≡ narrow f l k (lo + (n - n / 2) * below (get_or l (lo + (n - n / 2) - 1) 0) k) (n / 2)
  unfolding narrow
  narrow_on f lo n h = rw (lt-ltb 0 n h, narrow)

  narrow_end : (f lo n : ℕ) → n ≤ 0 → narrow f l k lo n ≡ lo
  unfolding narrow
  narrow_end zero lo n h = refl
  narrow_end (suc f) lo n h = rw (le-ltb 0 n h, narrow)

-- ---- what a look-up answers

module _ (l : List ℕ) (p : Pair) (k at : ℕ) (ek : k ≡ key p) (ea : at ≡ keyed l k) where
  abbrev found_by : Bool → ℕ → ℕ → Option ℕ
  found_by b i j = then_some (b && is_at l i j) (get_or l i 0 % 4096)

  looked_so : found_by (ltb p.right 2048) at k ≡ looked l p
  unfolding looked
  looked_so = ap₂ (found_by (ltb p.right 2048)) (ea ∙ ap (keyed l) ek) ek

  module _ (h : p.right < 2048) where
    in_reach : (b : Bool) → b ≡ is_at l at k → then_some b (get_or l at 0 % 4096) ≡ looked l p
    in_reach b e = ap (λ (z : Bool). then_some z (get_or l at 0 % 4096)) e ∙ ap (λ (z : Bool). found_by z at k) (sym (lt-ltb p.right 2048 h)) ∙ looked_so

    -- no code stands there
    pub look_past : length l ≤ at → None ≡ looked l p
    look_past g = let e = le-ltb at (length l) g in in_reach false (sym e ∙ and_first (ltb at (length l)) (eqb (get_or l at 0 / 4096) k) e)

    -- code c does, and it is the pair's or is not
    pub look_there : at < length l → (c : ℕ) (b : Bool) → c ≡ get_or l at 0 → b ≡ eqb (c / 4096) k → then_some b (c % 4096) ≡ looked l p
    look_there g c b e f =
        ap (λ (z : ℕ). then_some b (z % 4096)) e
        ∙ in_reach b (and_second _ _ b (lt-ltb at (length l) g) (f ∙ ap (λ (z : ℕ). eqb (z / 4096) k) e))

pub look_high : (l : List ℕ) (p : Pair) → 2048 ≤ p.right → None ≡ looked l p
unfolding looked
look_high l p h = rw (le-ltb p.right 2048 h)

-- the number, where it is told by how many codes there are that there is none
pub number_looked : (l : List ℕ) (p : Pair) → unwrap_or (looked l p) (length l) ≡ look_up l p
unfolding looked look_up
number_looked l p = pick (ltb p.right 2048 && is_at l (keyed l (key p)) (key p))
  where
    pick : (b : Bool) → unwrap_or (then_some b (get_or l (keyed l (key p)) 0 % 4096)) (length l) ≡ number_if b (get_or l (keyed l (key p)) 0) (length l)
    pick true = refl
    pick false = refl

-- an answer is small
pub look_few : (l : List ℕ) (p : Pair) (n : ℕ) → length l ≤ n → 4096 ≤ n → look_up l p ≤ n
unfolding look_up
look_few l p n h k = pick (ltb p.right 2048 && is_at l (keyed l (key p)) (key p))
  where
    pick : (b : Bool) → number_if b (get_or l (keyed l (key p)) 0) (length l) ≤ n
    pick true = omega arith
    pick false = h

-- ---- the search, turn by turn

-- the search is among n places from lo on, and will come to r
abbrev pub Narrowing : List ℕ → ℕ → ℕ → ℕ → ℕ → Type 0
Narrowing l k r lo n = (f : ℕ) × (n ≤ f) × (narrow f l k lo n ≡ r)

module _ (l : List ℕ) (k r : ℕ) where
  pub narrowing_start : keyed l k ≡ r → Narrowing l k r 0 (length l)
  unfolding keyed
  narrowing_start e = (length l, omega arith, e)

  pub narrowing_on : (lo n b : ℕ) → 0 < n → b ≡ below (get_or l (lo + (n - n / 2) - 1) 0) k → Narrowing l k r lo n → Narrowing l k r (lo + (n - n / 2) * b) (n / 2)
  narrowing_on lo n b h e (zero, a, g) = absurd (omega arith)
  narrowing_on lo n b h e (suc f, a, g) = (f, omega arith, ap (λ (z : ℕ). narrow f l k (lo + (n - n / 2) * z) (n / 2)) e ∙ sym (narrow_on l k f lo n h) ∙ g)

  pub narrowing_end : (lo n : ℕ) → n ≤ 0 → Narrowing l k r lo n → lo ≡ r
  narrowing_end lo n h (f, a, g) = sym (narrow_end l k f lo n h) ∙ g

-- ---- in a list that rises

-- what stands before r is below x, and nothing behind is
pub record Splits (l : List ℕ) (x r : ℕ) : Type 0 where
  pub within : r ≤ length l
  pub before : (i : ℕ) → i < r → get_or l i 0 < x
  pub behind : (i : ℕ) → r ≤ i → i < length l → x ≤ get_or l i 0

module _ (l : List ℕ) (k : ℕ) (s : Sorted l) where
  narrow_splits : (f lo n : ℕ) → lo + n ≤ length l → n ≤ f → ((i : ℕ) → i < lo → get_or l i 0 < k * 4096) → ((i : ℕ) → lo + n ≤ i → i < length l → k * 4096 ≤ get_or l i 0) → Splits l (k * 4096) (narrow f l k lo n)
  narrow_splits zero lo n b a p q = subst⁻¹ (Splits l (k * 4096)) (narrow_end l k zero lo n (omega arith)) (record { within = omega arith; before = p; behind = λ i h j. q i (omega arith) j })
  narrow_splits (suc f) lo n b a p q = pick (λ c d u v. narrow_splits f c d u v) (lt_or_ge 0 n) (lt_or_ge (get_or l (lo + (n - n / 2) - 1) 0 / 4096) k)
    where
      pick : ((c d : ℕ) → c + d ≤ length l → d ≤ f → ((i : ℕ) → i < c → get_or l i 0 < k * 4096) → ((i : ℕ) → c + d ≤ i → i < length l → k * 4096 ≤ get_or l i 0) → Splits l (k * 4096) (narrow f l k c d))
          → (0 < n) ⊎ (n ≤ 0) → (get_or l (lo + (n - n / 2) - 1) 0 / 4096 < k) ⊎ (k ≤ get_or l (lo + (n - n / 2) - 1) 0 / 4096) → Splits l (k * 4096) (narrow (suc f) l k lo n)
      pick r (inr h) t = subst⁻¹ (Splits l (k * 4096)) (narrow_end l k (suc f) lo n h) (record { within = omega arith; before = p; behind = λ i j m. q i (omega arith) m })
      pick r (inl h) (inl t) =
          subst⁻¹ (Splits l (k * 4096)) (narrow_on l k f lo n h ∙ ap (λ (z : ℕ). narrow f l k (lo + (n - n / 2) * z) (n / 2)) (below_lt (get_or l (lo + (n - n / 2) - 1) 0) k t))
          (r (lo + (n - n / 2) * 1) (n / 2) (omega arith) (omega arith) (λ i j. low i j (eq_or_ne i (lo + (n - n / 2) - 1))) (λ i j m. q i (omega arith) m))
        where
          low : (i : ℕ) → i < lo + (n - n / 2) * 1 → (i ≡ lo + (n - n / 2) - 1) ⊎ (i ≢ lo + (n - n / 2) - 1) → get_or l i 0 < k * 4096
          low i j (inl e) = let z = ap (λ (m : ℕ). get_or l m 0) e in omega arith
          low i j (inr d) = let g : i < lo + (n - n / 2) - 1 = omega arith in let u = sorted_at l s i (lo + (n - n / 2) - 1) g (omega arith) in omega arith
      pick r (inl h) (inr t) =
          subst⁻¹ (Splits l (k * 4096)) (narrow_on l k f lo n h ∙ ap (λ (z : ℕ). narrow f l k (lo + (n - n / 2) * z) (n / 2)) (below_ge (get_or l (lo + (n - n / 2) - 1) 0) k t))
          (r (lo + (n - n / 2) * 0) (n / 2) (omega arith) (omega arith) (λ i j. p i (omega arith)) (λ i j m. high i j m (eq_or_ne i (lo + (n - n / 2) - 1))))
        where
          high : (i : ℕ) → lo + (n - n / 2) * 0 + n / 2 ≤ i → i < length l → (i ≡ lo + (n - n / 2) - 1) ⊎ (i ≢ lo + (n - n / 2) - 1) → k * 4096 ≤ get_or l i 0
          high i j m (inl e) = let z = ap (λ (x : ℕ). get_or l x 0) e in omega arith
          high i j m (inr d) = let g : lo + (n - n / 2) - 1 < i = omega arith in let u = sorted_at l s (lo + (n - n / 2) - 1) i g m in omega arith

  keyed_splits : Splits l (k * 4096) (keyed l k)
  unfolding keyed
  keyed_splits = narrow_splits (length l) 0 (length l) (omega arith) (omega arith) (λ i h. absurd (not-suc-le-zero h)) (λ i h j. absurd (omega arith))

-- ---- the index of some pairs

pub codes_length : (k : ℕ) (ps : List Pair) → length (codes k ps) ≡ length ps
unfolding codes
codes_length k [] = refl
codes_length k (p ∷ ps) = ap suc (codes_length (suc k) ps)

pub codes_append : (k : ℕ) (ps qs : List Pair) → codes k (ps ++ qs) ≡ codes k ps ++ codes (k + length ps) qs
unfolding codes
codes_append k [] qs = ap (λ (n : ℕ). codes n qs) (let e : k ≡ k + 0 = omega arith in e)
codes_append k (p ∷ ps) qs = ap (λ (l : List ℕ). code p k ∷ l) (codes_append (suc k) ps qs ∙ ap (λ (n : ℕ). codes (suc k) ps ++ codes n qs) (let e : suc k + length ps ≡ k + suc (length ps) = omega arith in e))

pub index_length : (ps : List Pair) → length (index ps) ≡ length ps
unfolding index
index_length ps = sort_length (codes 0 ps) ∙ codes_length 0 ps

pub index_sorted : (ps : List Pair) → Sorted (index ps)
unfolding index
index_sorted ps = sort_sorted (codes 0 ps)

-- one pair more: its code is put in
pub index_more : (ps : List Pair) (p : Pair) → index (ps ++ (p ∷ [])) ≡ insert (code p (length ps)) (index ps)
unfolding index codes
index_more ps p =
    ap sort (codes_append 0 ps (p ∷ []) ∙ ap (λ (n : ℕ). codes 0 ps ++ (code p n ∷ [])) (let e : 0 + length ps ≡ length ps = omega arith in e))
    ∙ sort_mid (codes 0 ps) (code p (length ps)) [] ∙ ap (λ (l : List ℕ). insert (code p (length ps)) (sort l)) (append-nil (codes 0 ps))

-- c is the code of pair j
abbrev Coded : List Pair → ℕ → ℕ → Type 0
Coded ps k c = (j : ℕ) × (j < length ps) × (c ≡ code (pair_at ps j) (k + j))

codes_all : (k : ℕ) (ps : List Pair) (P : ℕ → Type 0) → ((c : ℕ) → Coded ps k c → P c) → All P (codes k ps)
unfolding codes
codes_all k [] P f = tt
codes_all k (p ∷ ps) P f = (
  f (code p k) (0, omega arith, ap (code p) (let e : k ≡ k + 0 = omega arith in e)),
  codes_all (suc k) ps P (λ c (j, h, e). f c (suc j, omega arith, e ∙ ap (code (pair_at ps j)) (let q : suc k + j ≡ k + suc j = omega arith in q))),
)

codes_in : (k : ℕ) (ps : List Pair) (j : ℕ) → j < length ps → In (code (pair_at ps j) (k + j)) (codes k ps)
unfolding codes
codes_in k [] j h = absurd (not-suc-le-zero h)
codes_in k (p ∷ ps) zero h = inl (ap (code p) (let e : k + 0 ≡ k = omega arith in e))
codes_in k (p ∷ ps) (suc j) h = inr (subst (λ (n : ℕ). In (code (pair_at ps j) n) (codes (suc k) ps)) (let q : suc k + j ≡ k + suc j = omega arith in q) (codes_in (suc k) ps j (le_of_suc-le-suc h)))

in_insert : (x y : ℕ) (l : List ℕ) → In x (y ∷ l) → In x (insert y l)
unfolding insert put
in_insert x y [] i = i
in_insert x y (z ∷ l) i = pick (in_insert x y l) (ltb z y) i
  where
    swap : In x (y ∷ (z ∷ l)) → (x ≡ z) ⊎ In x (y ∷ l)
    swap (inl e) = inr (inl e)
    swap (inr (inl e)) = inl e
    swap (inr (inr j)) = inr (inr j)

    more : (In x (y ∷ l) → In x (insert y l)) → (x ≡ z) ⊎ In x (y ∷ l) → In x (z ∷ insert y l)
    more r (inl e) = inl e
    more r (inr j) = inr (r j)

    pick : (In x (y ∷ l) → In x (insert y l)) → (b : Bool) → In x (y ∷ (z ∷ l)) → In x (put b y z l (insert y l))
    pick r true j = more r (swap j)
    pick r false j = j

pub in_sort : (x : ℕ) (l : List ℕ) → In x l → In x (sort l)
unfolding sort
in_sort x (y ∷ l) (inl e) = in_insert x y (sort l) (inl e)
in_sort x (y ∷ l) (inr i) = in_insert x y (sort l) (inr (in_sort x l i))
in_sort x [] x'' = elim x'' [ ]

index_coded : (ps : List Pair) (i : ℕ) → i < length ps → Coded ps 0 (get_or (index ps) i 0)
unfolding index
index_coded ps i h = all_at (Coded ps 0) (sort (codes 0 ps)) (all_sort (Coded ps 0) (codes 0 ps) (codes_all 0 ps (Coded ps 0) (λ c z. z))) i (let n = index_length ps in omega arith)

index_in : (ps : List Pair) (j : ℕ) → j < length ps → In (code (pair_at ps j) j) (index ps)
unfolding index
index_in ps j h = in_sort (code (pair_at ps j) j) (codes 0 ps) (subst (λ (n : ℕ). In (code (pair_at ps j) n) (codes 0 ps)) (let e : 0 + j ≡ j = omega arith in e) (codes_in 0 ps j h))

-- ---- a look-up

key_same : (p q : Pair) → p.right < 2048 → q.right < 2048 → key p ≡ key q → p ≡ q
key_same p q a b e = ap₂ pair (omega arith) (omega arith)

-- where the codes of the key of p go
abbrev spot : List Pair → Pair → ℕ
spot found p = keyed (index found) (key p)

module _ (m : ℕ) (found : List Pair) (a : Apart found) (w : AllOf m 2048 found) (f : length found ≤ most) (p : Pair) where
  n_is : length (index found) ≡ length found
  n_is = index_length found

  splits : Splits (index found) (code p 0) (spot found p)
  splits = subst (λ (x : ℕ). Splits (index found) x (spot found p)) (let e : key p * 4096 ≡ code p 0 = omega arith in e) (keyed_splits (index found) (key p) (index_sorted found))

  -- a code with the key of p is that of p
  own : (c : ℕ) → p.right < 2048 → Coded found 0 c → c / 4096 ≡ key p → (In p found) × (c % 4096 ≡ place p found)
  own c r (j, h, e) q =
      let o = w (pair_at found j) (in_at found j (pair 0 0) h) in
      let k : key (pair_at found j) ≡ key p = omega arith in
      let s : pair_at found j ≡ p = key_same (pair_at found j) p o.1 r k in
      let z : place p found ≡ j = ap (λ (x : Pair). place x found) (sym s) ∙ place_of found j a h in
      (subst (λ (x : Pair). In x found) s (in_at found j (pair 0 0) h), (let d = f in omega arith))

  -- where the code of a pair more goes: before those of its key, and there are none
  pub goes_in : (n : ℕ) → n < most → p.right < 2048 → (In p found → ⊥) → Splits (index found) (code p n) (spot found p)
  goes_in n h r d =
      let l = n_is in
      record {
        within = splits.within;
        before = λ i j. let b = splits.before i j in omega arith;
        behind = λ i j g. let b = splits.behind i j g in
            let z : get_or (index found) i 0 / 4096 ≢ key p = λ e. d (own (get_or (index found) i 0) r (index_coded found i (omega arith)) e).0 in omega arith;
      }

  known : In p found → look_up (index found) p ≡ place p found
  unfolding look_up
  known i =
      let r = (w p i).1 in
      let j = place_in p found i in
      let (t, h, e) = at_in (code p (place p found)) (index found) 0 (subst (λ (x : Pair). In (code x (place p found)) (index found)) (place_at p found j).1 (index_in found (place p found) j)) in
      let n = n_is in
      let g : spot found p ≤ t = ge t h e (lt_or_ge t (spot found p)) in
      let u : get_or (index found) (spot found p) 0 ≤ get_or (index found) t 0 = up t h g (eq_or_ne (spot found p) t) in
      let v = splits.behind (spot found p) (omega arith) (omega arith) in
      let o = own (get_or (index found) (spot found p) 0) r (index_coded found (spot found p) (omega arith)) (omega arith) in
      rw (lt-ltb p.right 2048 r, lt-ltb (spot found p) (length (index found)) (omega arith), eq-eqb (get_or (index found) (spot found p) 0 / 4096) (key p) (omega arith)) o.1
    where
      ge : (t : ℕ) → t < length (index found) → get_or (index found) t 0 ≡ code p (place p found) → (t < spot found p) ⊎ (spot found p ≤ t) → spot found p ≤ t
      ge t h e (inl x) = absurd (let z = splits.before t x in omega arith)
      ge t h e (inr x) = x

      up : (t : ℕ) → t < length (index found) → spot found p ≤ t → (spot found p ≡ t) ⊎ (spot found p ≢ t) → get_or (index found) (spot found p) 0 ≤ get_or (index found) t 0
      up t h g (inl e) = let z = ap (λ (x : ℕ). get_or (index found) x 0) e in omega arith
      up t h g (inr d) = sorted_at (index found) (index_sorted found) (spot found p) t (omega arith) h

  unknown : (In p found → ⊥) → look_up (index found) p ≡ place p found
  unfolding look_up
  unknown h = pick (ltb p.right 2048 && is_at (index found) (spot found p) (key p)) refl
    where
      pick : (b : Bool) → (ltb p.right 2048 && is_at (index found) (spot found p) (key p)) ≡ b
          → number_if b (get_or (index found) (spot found p) 0) (length (index found)) ≡ place p found
      pick true e =
          let (x, y) = and_t (ltb p.right 2048) _ e in
          let (y₁, y₂) = and_t (ltb (spot found p) (length (index found))) _ y in
          let n = n_is in
          let k : spot found p < length (index found) = ltb-true _ _ y₁ in
          absurd (h (own (get_or (index found) (spot found p) 0) (ltb-true p.right 2048 x) (index_coded found (spot found p) (omega arith)) (eqb-true _ _ y₂)).0)
      pick false e = n_is ∙ sym (place_none p found h)

  -- the code's look-up is the definition's
  pub look_up_is : look_up (index found) p ≡ place p found
  look_up_is = pick (lt_or_ge (place p found) (length found))
    where
      pick : (place p found < length found) ⊎ (length found ≤ place p found) → look_up (index found) p ≡ place p found
      pick (inl h) = known (place_at p found h).0
      pick (inr h) = unknown (λ i. let k = place_in p found i in omega arith)

  -- what stands where the codes of its key go tells whether a pair is known
  pub is_known : p.right < 2048 → is_at (index found) (spot found p) (key p) ≡ ltb (place p found) (length found)
  unfolding look_up
  is_known r = pick (is_at (index found) (spot found p) (key p)) refl
    where
      pick : (b : Bool) → is_at (index found) (spot found p) (key p) ≡ b → is_at (index found) (spot found p) (key p) ≡ ltb (place p found) (length found)
      pick true e =
          let (y, z) = and_t (ltb (spot found p) (length (index found))) _ e in
          let n = n_is in
          let k : spot found p < length (index found) = ltb-true _ _ y in
          e ∙ sym (lt-ltb (place p found) (length found) (place_in p found (own (get_or (index found) (spot found p) 0) r (index_coded found (spot found p) (omega arith)) (eqb-true _ _ z)).0))
      pick false e =
          let u : length (index found) ≡ place p found = rw (lt-ltb p.right 2048 r, e) at look_up_is in
          let n = n_is in
          e ∙ sym (le-ltb (place p found) (length found) (omega arith))
