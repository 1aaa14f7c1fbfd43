-- The coupling store as the code has it: the couplings of the pairs one after the other, each in places of its own, and as many of these in use as it is long.
use mathlib.Core.Path.{◌≡◌, refl, sym, subst, ap, ap₂, ◌∙◌}
use mathlib.Core.Logic.{◌⊎◌, inl, inr}
use Prim.Native.Nat.{ℕ, zero, suc, ◌+◌, ◌-◌, ◌≤◌, ◌<◌, min}
use mathlib.Core.List.{List, [], ◌∷◌, map}
use native.Mathlib.Omega.{arith}
use native.Mathlib.Nat.{le_of_suc-le-suc, not-suc-le-zero}
use lib.ListN.{length, get_or, take, drop, length-map, length-take}
use lib.Seq.{slice, length-slice, get_or-drop, get_or-take}
use lib.Ieee.{Float, nan}
use Rattle.std.proofs.lemmas.List.{drop-take, take_min, drop_min}
use Rattle.numbers.specs.Lists.{span}
use Rattle.numbers.proofs.Spans.{span_length}
use Rattle.epsdelta_theory.proofs.Rows.{at_map_span}
use Rattle.distance_theory.specs.Couplings.{Share, share, shares_of}
use Rattle.distance_theory.specs.declared.lent.Store.{Store}
use Rattle.distance_theory.proofs.Turns.{share_at, coupling_at}

-- those from a to b
abbrev pub shares_in : List ℕ → List Float → ℕ → ℕ → List Share
shares_in places masses a b = shares_of (slice a b places) (slice a b masses)

-- the coupling of pair k: it starts at starts[k] and is lengths[k] long
abbrev pub coupling : List ℕ → List ℕ → List ℕ → List Float → ℕ → List Share
coupling starts lengths places masses k = let a = get_or starts k 0 in shares_in places masses a (a + get_or lengths k 0)

-- the couplings of n pairs
abbrev pub policy_in : List ℕ → List ℕ → List ℕ → List Float → ℕ → List (List Share)
policy_in starts lengths places masses n = map (coupling starts lengths places masses) (span 0 n)

abbrev pub policy_of : Store → ℕ → List (List Share)
policy_of S n = policy_in S.starts.now S.lengths.now S.places.now S.masses.now n

-- ---- what the loops over it need

-- the shares from a to b are in the store, and each leads to one of n pairs
pub record Lies (places : List ℕ) (masses : List Float) (n a b : ℕ) : Type 0 where
  pub ordered : a ≤ b
  pub in_places : b ≤ length places
  pub in_masses : b ≤ length masses
  pub leads : (i : ℕ) → a ≤ i → i < b → get_or places i 0 < n

-- each place is that of one of n pairs
pub record Leads (n : ℕ) (places : List ℕ) : Type 0 where
  pub each : (i : ℕ) → i < length places → get_or places i 0 < n

-- so does the coupling of each of n pairs
pub record Holds (starts lengths places : List ℕ) (masses : List Float) (n : ℕ) : Type 0 where
  pub in_starts : n ≤ length starts
  pub in_lengths : n ≤ length lengths
  pub each : (k : ℕ) → k < n → Lies places masses n (get_or starts k 0) (get_or starts k 0 + get_or lengths k 0)

abbrev pub StoreHolds : Store → ℕ → Type 0
StoreHolds S n = Holds S.starts.now S.lengths.now S.places.now S.masses.now n

-- ---- laws

-- how long the couplings are, and the k-th of them
module _ (S L P : List ℕ) (M : List Float) (n : ℕ) where
  pub policy_length : length (policy_in S L P M n) ≡ n
  policy_length = length-map (span 0 n) (coupling S L P M) ∙ span_length 0 n

  pub policy_at : (k : ℕ) → k < n → coupling_at (policy_in S L P M n) k ≡ coupling S L P M k
  policy_at k h = at_map_span (coupling S L P M) 0 n k [] h ∙ ap (coupling S L P M) (omega arith)

pub shares_length : (ps : List ℕ) (ms : List Float) → length ps ≡ length ms → length (shares_of ps ms) ≡ length ps
unfolding shares_of
shares_length [] ms h = refl
shares_length (p ∷ ps) [] h = absurd (omega arith)
shares_length (p ∷ ps) (m ∷ ms) h = ap suc (shares_length ps ms (omega arith))

pub shares_at : (ps : List ℕ) (ms : List Float) (i : ℕ) → i < length ps → i < length ms → share_at (shares_of ps ms) i ≡ share (get_or ps i 0) (get_or ms i nan)
unfolding shares_of
shares_at [] ms i h k = absurd (not-suc-le-zero h)
shares_at (p ∷ ps) [] i h k = absurd (not-suc-le-zero k)
shares_at (p ∷ ps) (m ∷ ms) zero h k = refl
shares_at (p ∷ ps) (m ∷ ms) (suc i) h k = shares_at ps ms i (le_of_suc-le-suc h) (le_of_suc-le-suc k)

-- entry i of a list, in its part from a to b
pub slice_at : {A : Type 0} (a b i : ℕ) (l : List A) (d : A) → a ≤ i → i < b → get_or (slice a b l) (i - a) d ≡ get_or l i d
slice_at a b i l d h k = get_or-drop a (take b l) (i - a) d ∙ get_or-take b l (a + (i - a)) d (omega arith) ∙ ap (λ (j : ℕ). get_or l j d) (omega arith)

pub no_shares : (ps : List ℕ) (ms : List Float) → (ps ≡ []) ⊎ (ms ≡ []) → shares_of ps ms ≡ []
unfolding shares_of
no_shares [] ms h = refl
no_shares (p ∷ ps) [] h = refl
no_shares (p ∷ ps) (m ∷ ms) (inl e) = absurd (omega (arith, ap length e))
no_shares (p ∷ ps) (m ∷ ms) (inr e) = absurd (omega (arith, ap length e))

pub leads_past : {n p : ℕ} {ps : List ℕ} → Leads n (p ∷ ps) → Leads n ps
leads_past H = record { each = λ i h. H.each (suc i) (omega arith) }

-- a part of a list, as code lends it
pub part_is : {A : Type 0} (a b : ℕ) (l : List A) → a ≤ b → take (b - a) (drop a l) ≡ slice a b l
part_is a b l h = let e : a + (b - a) ≡ b = omega arith in sym (drop-take a (b - a) l) ∙ ap (λ (n : ℕ). slice a n l) e

-- each place of a coupling that lies in the store is that of a pair
pub part_leads : {P : List ℕ} {M : List Float} {n a b : ℕ} → Lies P M n a b → Leads n (take (b - a) (drop a P))
part_leads {P} {M} {n} {a} {b} H = rw (part_is a b P H.ordered) (record { each = λ i h. low i h })
  where
    low : (i : ℕ) → i < length (slice a b P) → get_or (slice a b P) i 0 < n
    low i h =
        let l = length-slice a b P H.in_places in
        let z : a + i - a ≡ i = omega arith in
        subst (λ (j : ℕ). get_or (slice a b P) j 0 < n) z (rw (slice_at a b (a + i) P 0 (omega arith) (omega arith)) (H.leads (a + i) (omega arith) (omega arith)))

-- the share at place i
module _ {P : List ℕ} {M : List Float} {n a b : ℕ} (H : Lies P M n a b) where
  pub in_at : (i : ℕ) → a ≤ i → i < b → share_at (shares_in P M a b) (i - a) ≡ share (get_or P i 0) (get_or M i nan)
  in_at i h k =
      let p = length-slice a b P H.in_places in
      let m = length-slice a b M H.in_masses in
      shares_at (slice a b P) (slice a b M) (i - a) (omega arith) (omega arith) ∙ ap₂ share (slice_at a b i P 0 h k) (slice_at a b i M nan h k)

-- of the entries from a to b those that there are, as code lends them
pub part_there : {A : Type 0} (a b : ℕ) (l : List A) {m n : ℕ} → n ≡ min b (length l) → m ≡ min a n → take (n - m) (drop m l) ≡ slice a b l
part_there a b l {m} {n} en em =
    part_is m n l (omega arith)
    ∙ ap₂ (λ (i : ℕ) (k : ℕ). drop i (take k l)) (em ∙ ap (min a) (en ∙ sym (length-take b l))) en
    ∙ ap (drop (min a (length (take b l)))) (take_min b l)
    ∙ drop_min a (take b l)
