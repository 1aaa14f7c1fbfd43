-- One turn of the loops between links and rows.
use mathlib.Core.Path.{◌≡◌, refl, sym, ap, ◌∙◌}
use Prim.Native.Nat.{ℕ, zero, suc, ◌+◌, ◌≤◌, ◌<◌}
use mathlib.Core.List.{List, [], ◌∷◌, ◌++◌, map}
use mathlib.Core.Logic.{◌⊎◌, inl, inr}
use native.Mathlib.Omega.{arith}
use native.Mathlib.Numerals.{add-one}
use native.Mathlib.Nat.{le_of_suc-le-suc, not-suc-le-zero}
use lib.ListN.{length, get_or, set, take, drop, length-map}
use lib.Seq.{take_at, drop_at, length-take-le}
use lib.Ieee.{Float, nan}
use Rattle.flow.specs.declared.network.Link.{Link}
use Rattle.flow.specs.Network.{caps_of, with_caps}
use Rattle.flow_theory.proofs.Lists.{at_map}
use Rattle.numbers.specs.Lists.{over}
use Rattle.numbers.proofs.Over.{over_step, over_length}

-- what stands past the end of a list of links, as the checker has it
abbrev pub past_end : Link
past_end = record { head = 0; cap = nan; cost = nan }

-- a row whose first i places are taken from the links
abbrev Filled : {A : Type 0} → (Link → A) → List Link → List A → ℕ → List A → Type 0
Filled f ls r₀ i r = r ≡ take i (map f ls) ++ drop i r₀

module _ {A : Type 0} (f : Link → A) (ls : List Link) (r₀ : List A) (i : ℕ) (r : List A) (I : Filled f ls r₀ i r) where
  filled_on : i < length ls → i < length r₀ → Filled f ls r₀ (i + 1) (set r i (f (get_or ls i past_end)))
  filled_on there h = rw (add-one i, I, ← at_map f past_end ls i) (over_step (map f ls) r₀ i (f past_end) (rw (length-map ls f) there) h)

  filled_length : i ≤ length ls → i ≤ length r₀ → length r ≡ length r₀
  filled_length there h = ap length I ∙ over_length (map f ls) r₀ i (let l = length-map ls f in omega arith) h

-- the heads alone
abbrev pub Heading : List Link → List ℕ → List ℕ → ℕ → Type 0
Heading ls heads₀ heads i = (i ≤ length ls) × Filled (λ (l : Link). l.head) ls heads₀ i heads

module _ (ls : List Link) (heads₀ : List ℕ) (size : length heads₀ ≡ length ls) {heads : List ℕ} {i : ℕ} (I : Heading ls heads₀ heads i) where
  pub heading_on : i < length ls → Heading ls heads₀ (set heads i (get_or ls i past_end).head) (i + 1)
  heading_on h = (omega arith, filled_on (λ (l : Link). l.head) ls heads₀ i heads I.1 h (omega arith))

-- the first n of the first n links
module _ {A : Type 0} (f : Link → A) where
  take_map : (ls : List Link) (n : ℕ) → take n (map f (take n ls)) ≡ take n (map f ls)
  take_map ls zero = refl
  take_map [] (suc n) = refl
  take_map (l ∷ ls) (suc n) = ap (λ (r : List A). f l ∷ r) (take_map ls n)

  pub front_rows : (ls : List Link) (n : ℕ) → n ≤ length ls → take (length (take n ls)) (map f (take n ls)) ≡ take n (map f ls)
  front_rows ls n h = ap (λ (k : ℕ). take k (map f (take n ls))) (length-take-le n ls h) ∙ take_map ls n

-- ---- and back

abbrev pub cap_at : List Link → List Float → ℕ → Link
cap_at ls cs i = record { head = (get_or ls i past_end).head; cap = get_or cs i nan; cost = (get_or ls i past_end).cost }

pub caps_suc : (ls : List Link) (cs : List Float) (i : ℕ) → i < length cs → i < length ls → set (with_caps ls (take i cs)) i (cap_at (with_caps ls (take i cs)) cs i) ≡ with_caps ls (take (suc i) cs)
unfolding with_caps
caps_suc [] cs i h k = absurd (not-suc-le-zero k)
caps_suc (l ∷ ls) [] i h k = absurd (not-suc-le-zero h)
caps_suc (l ∷ ls) (x ∷ cs) zero h k = refl
caps_suc (l ∷ ls) (x ∷ cs) (suc i) h k = ap (λ (m : List Link). record { head = l.head; cap = x; cost = l.cost } ∷ m) (caps_suc ls cs i (le_of_suc-le-suc h) (le_of_suc-le-suc k))

-- what was taken out and put back changes nothing
pub caps_back : (ls : List Link) (n : ℕ) → with_caps ls (caps_of n ls) ≡ ls
unfolding with_caps
caps_back [] zero = refl
caps_back [] (suc n) = refl
caps_back (l ∷ ls) zero = refl
caps_back (l ∷ ls) (suc n) = ap (λ (m : List Link). l ∷ m) (caps_back ls n)

pub caps_none : (ls : List Link) → with_caps ls [] ≡ ls
unfolding with_caps
caps_none [] = refl
caps_none (l ∷ ls) = refl

-- capacities past the links are not put in
pub caps_cut : (ls : List Link) (cs : List Float) (k : ℕ) → (length ls ≤ k) ⊎ (length cs ≤ k) → with_caps ls (take k cs) ≡ with_caps ls cs
unfolding with_caps
caps_cut ls [] zero h = refl
caps_cut ls [] (suc k) h = refl
caps_cut [] (x ∷ cs) zero h = refl
caps_cut [] (x ∷ cs) (suc k) h = refl
caps_cut (l ∷ ls) (x ∷ cs) zero (inl h) = absurd (not-suc-le-zero h)
caps_cut (l ∷ ls) (x ∷ cs) zero (inr h) = absurd (not-suc-le-zero h)
caps_cut (l ∷ ls) (x ∷ cs) (suc k) (inl h) = ap (λ (m : List Link). record { head = l.head; cap = x; cost = l.cost } ∷ m) (caps_cut ls cs k (inl (le_of_suc-le-suc h)))
caps_cut (l ∷ ls) (x ∷ cs) (suc k) (inr h) = ap (λ (m : List Link). record { head = l.head; cap = x; cost = l.cost } ∷ m) (caps_cut ls cs k (inr (le_of_suc-le-suc h)))

pub caps_length : (ls : List Link) (cs : List Float) → length (with_caps ls cs) ≡ length ls
unfolding with_caps
caps_length ls [] = refl
caps_length [] (x ∷ cs) = refl
caps_length (l ∷ ls) (x ∷ cs) = ap suc (caps_length ls cs)

-- the capacities that were put in are the links' first
pub caps_with : (ls : List Link) (xs : List Float) (n : ℕ) → length xs ≡ n → n ≤ length ls → caps_of n (with_caps ls xs) ≡ xs
unfolding with_caps
caps_with ls [] n e h = ap (λ (m : ℕ). caps_of m ls) (sym e)
caps_with [] (x ∷ xs) n e h = absurd (omega arith)
caps_with (l ∷ ls) (x ∷ xs) zero e h = absurd (omega arith)
caps_with (l ∷ ls) (x ∷ xs) (suc n) e h = ap (λ (m : List Float). x ∷ m) (caps_with ls xs n (omega arith) (le_of_suc-le-suc h))

-- ---- rows of any length, whose first i places are taken from the links

abbrev pub fill : {A : Type 0} → (Link → A) → List Link → List A → ℕ → List A
fill f ls r i = take i (map f ls) ++ drop i r

module _ {A : Type 0} (f : Link → A) (ls : List Link) (r : List A) (i : ℕ) where
  pub fill_next : i < length ls → i < length r → set (fill f ls r i) i (f (get_or ls i past_end)) ≡ fill f ls r (suc i)
  fill_next there h = rw (← at_map f past_end ls i) (over_step (map f ls) r i (f past_end) (rw (length-map ls f) there) h)

  pub fill_length : i ≤ length ls → i ≤ length r → length (fill f ls r i) ≡ length r
  fill_length there h = over_length (map f ls) r i (let l = length-map ls f in omega arith) h

  pub fill_taken : i ≤ length ls → take i (fill f ls r i) ≡ take i (map f ls)
  fill_taken there = take_at (take i (map f ls)) (drop i r) i (length-take-le i (map f ls) (rw (length-map ls f) there))

  pub fill_dropped : i ≤ length ls → drop i (fill f ls r i) ≡ drop i r
  fill_dropped there = drop_at (take i (map f ls)) (drop i r) i (length-take-le i (map f ls) (rw (length-map ls f) there))

  pub fill_over : i ≤ length ls → fill f ls r i ≡ over (take i (map f ls)) r
  fill_over there = ap (λ (m : ℕ). take i (map f ls) ++ drop m r) (sym (length-take-le i (map f ls) (rw (length-map ls f) there)))

-- what was written over the front of a row stands there
pub front_of : {A : Type 0} (f : Link → A) (ls : List Link) (r : List A) (n : ℕ) → n ≤ length ls → take n (over (take n (map f ls)) r) ≡ take n (map f ls)
front_of f ls r n there = let l = length-take-le n (map f ls) (rw (length-map ls f) there) in take_at (take n (map f ls)) (drop (length (take n (map f ls))) r) n l
