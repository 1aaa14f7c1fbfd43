-- The links of a flow test by their numbers: those from the source, those to the sink, and one between targets i and k that are held together. Its number rises with i, and for one i with k.
use mathlib.Core.Path.{◌≡◌, refl, sym, ap, ◌∙◌}
use Prim.Native.Nat.{ℕ, zero, suc, ◌≤◌, ◌<◌, ◌+◌, ◌-◌}
use mathlib.Core.Bool.{Bool, true, false}
use mathlib.Core.Logic.{◌⊎◌, inl, inr}
use mathlib.Core.List.{List, [], ◌∷◌, ◌++◌}
use native.Mathlib.Omega.{arith}
use native.Mathlib.Nat.{not-suc-le-zero, le_of_suc-le-suc}
use lib.ListN.{length, get_or, length-append, get_or-append}
use lib.Seq.{get_or-append-add}
use lib.Ieee.{Float, nan, inf}
use Rattle.numbers.specs.Real.{nought}
use Rattle.numbers.proofs.Bools.{lt_or_ge, one_if}
use Rattle.epsdelta_theory.specs.Jumps.{Jump}
use Rattle.epsdelta_theory.specs.Relation.{holds}
use Rattle.epsdelta_theory.proofs.RowReads.{no_jump}
use Rattle.epsdelta_theory.specs.FlowTest.{Link, source_links, sink_links, link_if, cross_links, all_cross_links, heads, caps}

-- what is read past the last link
abbrev pub no_link : Link
no_link = record { from = 0; to = 0; cap = nan }

abbrev pub target_at : List Jump → ℕ → ℕ
target_at js i = (get_or js i no_jump).target

abbrev pub rate_at : List Jump → ℕ → Float
rate_at js i = (get_or js i no_jump).rate

-- ---- heads and capacities of link q, and of its reverse

twice_suc : (q : ℕ) → suc q + suc q ≡ suc (suc (q + q))
twice_suc q = omega arith

pub head_at : (ls : List Link) (q : ℕ) → get_or (heads ls) (q + q) 0 ≡ (get_or ls q no_link).to
unfolding heads
head_at [] q = refl
head_at (l ∷ ls) zero = refl
head_at (l ∷ ls) (suc q) = ap (λ (n : ℕ). get_or (l.to ∷ l.from ∷ heads ls) n 0) (twice_suc q) ∙ head_at ls q

pub back_at : (ls : List Link) (q : ℕ) → get_or (heads ls) (suc (q + q)) 0 ≡ (get_or ls q no_link).from
unfolding heads
back_at [] q = refl
back_at (l ∷ ls) zero = refl
back_at (l ∷ ls) (suc q) = ap (λ (n : ℕ). get_or (l.to ∷ l.from ∷ heads ls) (suc n) 0) (twice_suc q) ∙ back_at ls q

pub cap_at_lem : (ls : List Link) (q : ℕ) → get_or (caps ls) (q + q) nan ≡ (get_or ls q no_link).cap
unfolding caps
cap_at_lem [] q = refl
cap_at_lem (l ∷ ls) zero = refl
cap_at_lem (l ∷ ls) (suc q) = ap (λ (n : ℕ). get_or (l.cap ∷ nought ∷ caps ls) n nan) (twice_suc q) ∙ cap_at_lem ls q

pub cap_back : (ls : List Link) (q : ℕ) → q < length ls → get_or (caps ls) (suc (q + q)) nan ≡ nought
unfolding caps
cap_back [] q h = absurd (not-suc-le-zero h)
cap_back (l ∷ ls) zero h = refl
cap_back (l ∷ ls) (suc q) h = ap (λ (n : ℕ). get_or (l.cap ∷ nought ∷ caps ls) (suc n) nan) (twice_suc q) ∙ cap_back ls q (le_of_suc-le-suc h)

-- ---- links from the source, and to the sink

pub source_at_lem : (src n : ℕ) (js : List Jump) (i : ℕ) → i < length js → get_or (source_links src n js) i no_link ≡ record { from = src; to = n + i; cap = rate_at js i }
unfolding source_links
source_at_lem src n [] i h = absurd (not-suc-le-zero h)
source_at_lem src n (j ∷ js) zero h = let z : n ≡ n + 0 = omega arith in ap (λ (x : ℕ). record { from = src; to = x; cap = j.rate }) z
source_at_lem src n (j ∷ js) (suc i) h =
    let z : suc n + i ≡ n + suc i = omega arith in
    source_at_lem src (suc n) js i (le_of_suc-le-suc h) ∙ ap (λ (x : ℕ). record { from = src; to = x; cap = rate_at js i }) z

pub source_count : (src n : ℕ) (js : List Jump) → length (source_links src n js) ≡ length js
unfolding source_links
source_count src n [] = refl
source_count src n (j ∷ js) = ap suc (source_count src (suc n) js)

pub sink_at : (sink n : ℕ) (js : List Jump) (k : ℕ) → k < length js → get_or (sink_links sink n js) k no_link ≡ record { from = n + k; to = sink; cap = rate_at js k }
unfolding sink_links
sink_at sink n [] k h = absurd (not-suc-le-zero h)
sink_at sink n (j ∷ js) zero h = let z : n ≡ n + 0 = omega arith in ap (λ (x : ℕ). record { from = x; to = sink; cap = j.rate }) z
sink_at sink n (j ∷ js) (suc k) h =
    let z : suc n + k ≡ n + suc k = omega arith in
    sink_at sink (suc n) js k (le_of_suc-le-suc h) ∙ ap (λ (x : ℕ). record { from = x; to = sink; cap = rate_at js k }) z

pub sink_count : (sink n : ℕ) (js : List Jump) → length (sink_links sink n js) ≡ length js
unfolding sink_links
sink_count sink n [] = refl
sink_count sink n (j ∷ js) = ap suc (sink_count sink (suc n) js)

-- ---- links between targets

module _ (m : ℕ) (R : List Bool) where
  -- how many of the first k jumps are held with u
  before : ℕ → List Jump → ℕ → ℕ
  before u [] k = 0
  before u (j ∷ js) zero = 0
  before u (j ∷ js) (suc k) = one_if (holds m R u j.target) + before u js k

  -- how many links stand before that of i and k
  pub rank : List Jump → List Jump → ℕ → ℕ → ℕ
  rank [] ts i k = 0
  rank (j ∷ js) ts zero k = before j.target ts k
  rank (j ∷ js) ts (suc i) k = before j.target ts (length ts) + rank js ts i k

  -- from u, node i, to jumps that begin at node n
  module _ (u i : ℕ) where
    cross_at : (n : ℕ) (js : List Jump) (k : ℕ) → k < length js → holds m R u (target_at js k) ≡ true
        → (before u js k < length (cross_links m R u i n js)) × (get_or (cross_links m R u i n js) (before u js k) no_link ≡ record { from = i; to = n + k; cap = inf false })
    unfolding cross_links link_if before
    cross_at n [] k h t = absurd (not-suc-le-zero h)
    cross_at n (j ∷ js) zero h t = let z : n ≡ n + 0 = omega arith in rw t (omega arith, ap (λ (x : ℕ). record { from = i; to = x; cap = inf false }) z)
    cross_at n (j ∷ js) (suc k) h t = pick (holds m R u j.target) (cross_at (suc n) js k (le_of_suc-le-suc h) t)
      where
        z : suc n + k ≡ n + suc k
        z = omega arith

        pick : (b : Bool) → (before u js k < length (cross_links m R u i (suc n) js)) × (get_or (cross_links m R u i (suc n) js) (before u js k) no_link ≡ record { from = i; to = suc n + k; cap = inf false })
            → (one_if b + before u js k < length (link_if b i n (cross_links m R u i (suc n) js)))
            × (get_or (link_if b i n (cross_links m R u i (suc n) js)) (one_if b + before u js k) no_link ≡ record { from = i; to = n + suc k; cap = inf false })
        pick true (l, e) =
            let y : 1 + before u js k ≡ suc (before u js k) = omega arith in
            (omega arith, ap (λ (x : ℕ). get_or (link_if true i n (cross_links m R u i (suc n) js)) x no_link) y ∙ e ∙ ap (λ (x : ℕ). record { from = i; to = x; cap = inf false }) z)
        pick false (l, e) =
            let y : 0 + before u js k ≡ before u js k = omega arith in
            (omega arith, ap (λ (x : ℕ). get_or (cross_links m R u i (suc n) js) x no_link) y ∙ e ∙ ap (λ (x : ℕ). record { from = i; to = x; cap = inf false }) z)

    cross_count : (n : ℕ) (js : List Jump) → length (cross_links m R u i n js) ≡ before u js (length js)
    unfolding cross_links link_if before
    cross_count n [] = refl
    cross_count n (j ∷ js) = pick (holds m R u j.target) (cross_count (suc n) js)
      where
        pick : (b : Bool) → length (cross_links m R u i (suc n) js) ≡ before u js (length js) → length (link_if b i n (cross_links m R u i (suc n) js)) ≡ one_if b + before u js (length js)
        pick true e = omega arith
        pick false e = omega arith

    cross_inv : (n : ℕ) (js : List Jump) (q : ℕ) → q < length (cross_links m R u i n js) → (k : ℕ) × (k < length js) × (holds m R u (target_at js k) ≡ true) × (q ≡ before u js k)
    unfolding cross_links link_if before
    cross_inv n [] q h = absurd (not-suc-le-zero h)
    cross_inv n (j ∷ js) q h = pick (λ z g. cross_inv (suc n) js z g) (holds m R u j.target) refl q h
      where
        pick : ((z : ℕ) → z < length (cross_links m R u i (suc n) js) → (k : ℕ) × (k < length js) × (holds m R u (target_at js k) ≡ true) × (z ≡ before u js k))
            → (b : Bool) → holds m R u j.target ≡ b → (q : ℕ) → q < length (link_if b i n (cross_links m R u i (suc n) js))
            → (k : ℕ) × (k < suc (length js)) × (holds m R u (target_at (j ∷ js) k) ≡ true) × (q ≡ before u (j ∷ js) k)
        pick again true t zero g = (0, omega arith, t, refl)
        pick again true t (suc q) g =
            let (k, l, e, w) = again q (le_of_suc-le-suc g) in
            (suc k, omega arith, e, rw t (omega arith))
        pick again false t q g =
            let (k, l, e, w) = again q g in
            (suc k, omega arith, e, rw t (omega arith))

  before_rises : (u : ℕ) (js : List Jump) (k k' : ℕ) → k < k' → k < length js → holds m R u (target_at js k) ≡ true → before u js k < before u js k'
  unfolding before
  before_rises u [] k k' l h t = absurd (not-suc-le-zero h)
  before_rises u (j ∷ js) zero zero l h t = absurd (not-suc-le-zero l)
  before_rises u (j ∷ js) (suc k) zero l h t = absurd (not-suc-le-zero l)
  before_rises u (j ∷ js) zero (suc k') l h t = rw t (omega arith)
  before_rises u (j ∷ js) (suc k) (suc k') l h t = let r = before_rises u js k k' (le_of_suc-le-suc l) (le_of_suc-le-suc h) t in omega arith

  module _ (ts : List Jump) where
    pub all_at : (p n : ℕ) (js : List Jump) (i k : ℕ) → i < length js → k < length ts → holds m R (target_at js i) (target_at ts k) ≡ true
        → (rank js ts i k < length (all_cross_links m R p n js ts)) × (get_or (all_cross_links m R p n js ts) (rank js ts i k) no_link ≡ record { from = p + i; to = n + k; cap = inf false })
    unfolding all_cross_links rank
    all_at p n [] i k h g t = absurd (not-suc-le-zero h)
    all_at p n (j ∷ js) zero k h g t =
        let xs = cross_links m R j.target p n ts in
        let ys = all_cross_links m R (suc p) n js ts in
        let (l, e) = cross_at j.target p n ts k g t in
        let z : p ≡ p + 0 = omega arith in
        let y = length-append xs ys in
        (omega arith, get_or-append xs ys no_link (before j.target ts k) l ∙ e ∙ ap (λ (x : ℕ). record { from = x; to = n + k; cap = inf false }) z)
    all_at p n (j ∷ js) (suc i) k h g t =
        let xs = cross_links m R j.target p n ts in
        let ys = all_cross_links m R (suc p) n js ts in
        let (l, e) = all_at (suc p) n js i k (le_of_suc-le-suc h) g t in
        let c = cross_count j.target p n ts in
        let y = length-append xs ys in
        let z : suc p + i ≡ p + suc i = omega arith in (
          omega arith,
          ap (λ (x : ℕ). get_or (xs ++ ys) (x + rank js ts i k) no_link) (sym c) ∙ get_or-append-add xs ys (rank js ts i k) no_link ∙ e ∙ ap (λ (x : ℕ). record { from = x; to = n + k; cap = inf false }) z,
        )

    pub all_inv : (p n : ℕ) (js : List Jump) (q : ℕ) → q < length (all_cross_links m R p n js ts)
        → (i : ℕ) × (k : ℕ) × (i < length js) × (k < length ts) × (holds m R (target_at js i) (target_at ts k) ≡ true) × (q ≡ rank js ts i k)
    unfolding all_cross_links rank
    all_inv p n [] q h = absurd (not-suc-le-zero h)
    all_inv p n (j ∷ js) q h = pick (λ z g. all_inv (suc p) n js z g) (lt_or_ge q (length (cross_links m R j.target p n ts)))
      where
        pick : ((z : ℕ) → z < length (all_cross_links m R (suc p) n js ts) → (i : ℕ) × (k : ℕ) × (i < length js) × (k < length ts) × (holds m R (target_at js i) (target_at ts k) ≡ true) × (z ≡ rank js ts i k))
            → (q < length (cross_links m R j.target p n ts)) ⊎ (length (cross_links m R j.target p n ts) ≤ q)
            → (i : ℕ) × (k : ℕ) × (i < suc (length js)) × (k < length ts) × (holds m R (target_at (j ∷ js) i) (target_at ts k) ≡ true) × (q ≡ rank (j ∷ js) ts i k)
        pick again (inl g) = let (k, l, t, w) = cross_inv j.target p n ts q g in (0, k, omega arith, l, t, w)
        pick again (inr g) =
            let y = length-append (cross_links m R j.target p n ts) (all_cross_links m R (suc p) n js ts) in
            let c = cross_count j.target p n ts in
            let (i, k, l, r, t, w) = again (q - length (cross_links m R j.target p n ts)) (omega arith) in
            (suc i, k, omega arith, r, t, omega arith)

    -- the number rises with k
    pub rank_right : (js : List Jump) (i k k' : ℕ) → i < length js → k < k' → k < length ts → holds m R (target_at js i) (target_at ts k) ≡ true → rank js ts i k < rank js ts i k'
    unfolding rank
    rank_right [] i k k' h l g t = absurd (not-suc-le-zero h)
    rank_right (j ∷ js) zero k k' h l g t = before_rises j.target ts k k' l g t
    rank_right (j ∷ js) (suc i) k k' h l g t = let r = rank_right js i k k' (le_of_suc-le-suc h) l g t in omega arith

    -- and with i
    pub rank_down : (js : List Jump) (i i' k k' : ℕ) → i < i' → i' < length js → k < length ts → holds m R (target_at js i) (target_at ts k) ≡ true → rank js ts i k < rank js ts i' k'
    unfolding rank
    rank_down [] i i' k k' l h g t = absurd (not-suc-le-zero h)
    rank_down (j ∷ js) zero zero k k' l h g t = absurd (not-suc-le-zero l)
    rank_down (j ∷ js) (suc i) zero k k' l h g t = absurd (not-suc-le-zero l)
    rank_down (j ∷ js) zero (suc i') k k' l h g t = let r = before_rises j.target ts k (length ts) g g t in omega arith
    rank_down (j ∷ js) (suc i) (suc i') k k' l h g t = let r = rank_down js i i' k k' (le_of_suc-le-suc l) (le_of_suc-le-suc h) g t in omega arith
