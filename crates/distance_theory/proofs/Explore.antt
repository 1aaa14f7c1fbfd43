-- The pairs that are met: none twice, those that follow a pair among them, and every look-up finds its pair. `Exploring` is what holds between two pairs of the loop.
use mathlib.Core.Path.{◌≡◌, refl, sym, subst, subst⁻¹, ap, ap₂, ◌∙◌}
use Prim.Native.Nat.{ℕ, zero, suc, ◌≤◌, ◌<◌, ◌+◌}
use mathlib.Core.Bool.{Bool, true, false, ◌||◌, true≢false}
use mathlib.Core.Logic.{◌≢◌, ◌⊎◌, inl, inr}
use mathlib.Core.List.{List, [], ◌∷◌, ◌++◌, append-nil, append_assoc}
use native.Mathlib.Omega.{arith}
use native.Mathlib.Nat.{le_of_suc-le-suc, not-suc-le-zero}
use lib.Dec.{eqb, ltb, lit≤}
use lib.ListN.{length, length-append, get_or-append}
use borrow.Author.Tests.{ltb-true, ltb-false, lt-ltb, le-ltb, eqb-true, eq-eqb}
use Rattle.numbers.specs.Search.{here}
use Rattle.numbers.specs.Lists.{In}
use Rattle.numbers.proofs.Bools.{and_t, or_t, or_f, eq_or_ne}
use Rattle.numbers.proofs.Members.{Apart, in_at, in_left, in_last, apart_snoc}
use Rattle.chain_theory.specs.Chain.{Chain}
use Rattle.distance_theory.specs.Pairs.{Pair, pair, same, place, pair_at, most, noted, meet, meet_all, successors, explore, pairs}

-- ---- where a pair stands

same_t : (p q : Pair) → same p q ≡ true → p ≡ q
same_t p q e = let a = and_t (eqb p.left q.left) (eqb p.right q.right) e in ap₂ pair (eqb-true _ _ a.0) (eqb-true _ _ a.1)

same_self : (p : Pair) → same p p ≡ true
same_self p = rw (eq-eqb p.left p.left refl, eq-eqb p.right p.right refl)

same_of : (p q : Pair) → p ≡ q → same p q ≡ true
same_of p q e = subst (λ (x : Pair). same p x ≡ true) e (same_self p)

place_step : (p q : Pair) (qs : List Pair) (b : Bool) → same p q ≡ b → place p (q ∷ qs) ≡ here b (place p qs)
unfolding place
place_step p q qs b h = ap (λ (c : Bool). here c (place p qs)) h

pub place_le : (p : Pair) (l : List Pair) → place p l ≤ length l
unfolding place
place_le p [] = omega arith
place_le p (q ∷ qs) = pick (place_le p qs) (same p q)
  where
    pick : place p qs ≤ length qs → (b : Bool) → here b (place p qs) ≤ suc (length qs)
    pick h true = omega arith
    pick h false = omega arith

-- a look-up finds its pair
pub place_in : (p : Pair) (l : List Pair) → In p l → place p l < length l
place_in p (q ∷ qs) i = pick (λ j. place_in p qs j) (same p q) refl i
  where
    pick : (In p qs → place p qs < length qs) → (b : Bool) → same p q ≡ b → (p ≡ q) ⊎ In p qs → place p (q ∷ qs) < suc (length qs)
    pick r true h i = rw (place_step p q qs true h) (omega arith)
    pick r false h (inl e) = absurd (true≢false (sym (same_of p q e) ∙ h))
    pick r false h (inr j) = let k = r j in rw (place_step p q qs false h) (omega arith)
place_in p [] i = elim i [ ]

pub place_at : (p : Pair) (l : List Pair) → place p l < length l → (In p l) × (pair_at l (place p l) ≡ p)
place_at p [] h = absurd (not-suc-le-zero h)
place_at p (q ∷ qs) h = pick (λ j. place_at p qs j) (same p q) refl
  where
    pick : (place p qs < length qs → (In p qs) × (pair_at qs (place p qs) ≡ p)) → (b : Bool) → same p q ≡ b → (In p (q ∷ qs)) × (pair_at (q ∷ qs) (place p (q ∷ qs)) ≡ p)
    pick r true e = (inl (same_t p q e), subst⁻¹ (λ (k : ℕ). pair_at (q ∷ qs) k ≡ p) (place_step p q qs true e) (sym (same_t p q e)))
    pick r false e =
        let s : place p (q ∷ qs) ≡ suc (place p qs) = place_step p q qs false e in
        let k = r (omega arith) in
        (inr k.0, subst⁻¹ (λ (k : ℕ). pair_at (q ∷ qs) k ≡ p) s k.1)

-- pair i stands at i
pub place_of : (l : List Pair) (i : ℕ) → Apart l → i < length l → place (pair_at l i) l ≡ i
place_of [] i a h = absurd (not-suc-le-zero h)
place_of (q ∷ qs) zero a h = place_step q q qs true (same_self q)
place_of (q ∷ qs) (suc i) a h = pick (place_of qs i a.1 (le_of_suc-le-suc h)) (same (pair_at qs i) q) refl
  where
    pick : place (pair_at qs i) qs ≡ i → (b : Bool) → same (pair_at qs i) q ≡ b → place (pair_at qs i) (q ∷ qs) ≡ suc i
    pick r true e = absurd (a.0 (subst (λ (x : Pair). In x qs) (same_t (pair_at qs i) q e) (in_at qs i (pair 0 0) (le_of_suc-le-suc h))))
    pick r false e = place_step (pair_at qs i) q qs false e ∙ ap suc r

-- and one that is not there at the end
pub place_none : (p : Pair) (l : List Pair) → (In p l → ⊥) → place p l ≡ length l
place_none p l h = pick (ltb (place p l) (length l)) refl
  where
    pick : (b : Bool) → ltb (place p l) (length l) ≡ b → place p l ≡ length l
    pick true e = absurd (h (place_at p l (ltb-true _ _ e)).0)
    pick false e = let a : length l ≤ place p l = ltb-false _ _ e in let b = place_le p l in omega arith

-- ---- one pair

pub meet_known : (p : Pair) (l : List Pair) → place p l < length l → meet p l ≡ l
unfolding meet
meet_known p l h = ap (λ (b : Bool). noted (b || ltb most (length l)) p l) (lt-ltb _ _ h)

-- pair 4,097 is there: nothing changes
pub meet_full : (p : Pair) (l : List Pair) → most < length l → meet p l ≡ l
unfolding meet
meet_full p l h = ap (λ (b : Bool). noted (ltb (place p l) (length l) || b) p l) (lt-ltb _ _ h) ∙ either (ltb (place p l) (length l))
  where
    either : (b : Bool) → noted (b || true) p l ≡ l
    either true = refl
    either false = refl

pub meet_new : (p : Pair) (l : List Pair) → length l ≤ place p l → length l ≤ most → meet p l ≡ l ++ (p ∷ [])
unfolding meet
meet_new p l h k = rw (le-ltb (place p l) (length l) h, le-ltb most (length l) k)

-- ---- lists that grow at their end

-- l is the beginning of g
abbrev pub Begins : List Pair → List Pair → Type 0
Begins l g = (r : List Pair) × (g ≡ l ++ r)

begins_self : (l : List Pair) → Begins l l
begins_self l = ([], sym (append-nil l))

begins_trans : (l g h : List Pair) → Begins l g → Begins g h → Begins l h
begins_trans l g h (r, e) (s, f) = (r ++ s, f ∙ ap (λ (x : List Pair). x ++ s) e ∙ append_assoc l r s)

pub begins_in : (l g : List Pair) → Begins l g → (p : Pair) → In p l → In p g
begins_in l g (r, e) p i = subst⁻¹ (In p) e (in_left p l r i)

pub begins_length : (l g : List Pair) → Begins l g → length l ≤ length g
begins_length l g (r, e) = let k = length-append l r in let m = ap length e in omega arith

pub begins_at : (l g : List Pair) → Begins l g → (i : ℕ) → i < length l → pair_at g i ≡ pair_at l i
begins_at l g (r, e) i h = ap (λ (x : List Pair). pair_at x i) e ∙ get_or-append l r (pair 0 0) i h

-- ---- some pairs

-- what holds of the list at every time
abbrev pub Sane : List Pair → Type 0
Sane l = Apart l × (length l ≤ suc most)

-- pair p has been met
abbrev pub Met : Pair → List Pair → List Pair → Type 0
Met p l g = Sane g × Begins l g × (length g ≤ most → In p g)

pub met : (p : Pair) (l : List Pair) → Sane l → Met p l (meet p l)
unfolding meet
met p l s = pick (ltb (place p l) (length l) || ltb most (length l)) refl
  where
    was : (ltb (place p l) (length l) ≡ true) ⊎ (ltb most (length l) ≡ true) → length l ≤ most → In p l
    was (inl k) h = (place_at p l (ltb-true _ _ k)).0
    was (inr k) h = absurd (let m : most < length l = ltb-true _ _ k in omega arith)

    pick : (b : Bool) → (ltb (place p l) (length l) || ltb most (length l)) ≡ b → Met p l (noted b p l)
    pick true e = (s, begins_self l, was (or_t (ltb (place p l) (length l)) (ltb most (length l)) e))
    pick false e =
        let o = or_f (ltb (place p l) (length l)) (ltb most (length l)) e in
        let n : length l ≤ place p l = ltb-false _ _ o.0 in
        let m : length l ≤ most = ltb-false _ _ o.1 in
        ((apart_snoc l p s.0 (λ i. let k = place_in p l i in omega arith), (let k = length-append l (p ∷ []) in omega arith)), (p ∷ [], refl), λ h. in_last p l)

abbrev pub MetAll : List Pair → List Pair → List Pair → Type 0
MetAll ps l g = Sane g × Begins l g × (length g ≤ most → (p : Pair) → In p ps → In p g)

pub met_all : (ps l : List Pair) → Sane l → MetAll ps l (meet_all ps l)
unfolding meet_all
met_all [] l s = (s, begins_self l, λ h p i. absurd i)
met_all (q ∷ ps) l s =
    let a = met q l s in
    let b = met_all ps (meet q l) a.0 in
    (b.0, begins_trans l (meet q l) (meet_all ps (meet q l)) a.1 b.1, λ h p i. pick a b h p i)
  where
    pick : Met q l (meet q l) → MetAll ps (meet q l) (meet_all ps (meet q l)) → length (meet_all ps (meet q l)) ≤ most → (p : Pair) → In p (q ∷ ps) → In p (meet_all ps (meet q l))
    pick a b h p (inl e) = begins_in (meet q l) (meet_all ps (meet q l)) b.1 p
        (subst⁻¹ (λ (x : Pair). In x (meet q l)) e (a.2 (let k = begins_length (meet q l) (meet_all ps (meet q l)) b.1 in omega arith)))
    pick a b h p (inr i) = b.2 h p i

-- from pair 4,097 on nothing changes: code may stop there
pub meet_all_full : (ps l : List Pair) → most < length l → meet_all ps l ≡ l
unfolding meet_all
meet_all_full [] l h = refl
meet_all_full (p ∷ ps) l h = ap (meet_all ps) (meet_full p l h) ∙ meet_all_full ps l h

-- ---- discovery

module _ (A B : Chain) where
  -- what follows pair j is there
  abbrev pub Closed : List Pair → ℕ → Type 0
  Closed l j = (p : Pair) → In p (successors A B (pair_at l j)) → In p l

  -- at pair i, with k turns to come: none too few
  pub record Exploring (l : List Pair) (i k : ℕ) : Type 0 where
    pub sane : Sane l
    pub fuel : suc most ≤ k + i
    pub low : i ≤ length l
    pub closed : (j : ℕ) → j < i → length l ≤ most → Closed l j

  pub record Explored (l g : List Pair) : Type 0 where
    pub sane : Sane g
    pub begins : Begins l g
    pub closed : length g ≤ most → (j : ℕ) → j < length g → Closed g j

  abbrev pub follow : List Pair → ℕ → List Pair
  follow l i = meet_all (successors A B (pair_at l i)) l

  pub explore_on : (k i : ℕ) (l : List Pair) → i < length l → explore A B (suc k) i l ≡ explore A B k (suc i) (follow l i)
  unfolding explore
  explore_on k i l h = ap (λ (b : Bool). elim b as (λ z. List Pair) [ true ↦ explore A B k (suc i) (follow l i) | false ↦ l ]) (lt-ltb _ _ h)

  pub explore_end : (k i : ℕ) (l : List Pair) → length l ≤ i → explore A B k i l ≡ l
  unfolding explore
  explore_end zero i l h = refl
  explore_end (suc k) i l h = ap (λ (b : Bool). elim b as (λ z. List Pair) [ true ↦ explore A B k (suc i) (follow l i) | false ↦ l ]) (le-ltb _ _ h)

  pub explore_turn : (k i : ℕ) (l : List Pair) → Exploring l i (suc k) → i < length l → Exploring (follow l i) (suc i) k
  explore_turn k i l x h =
      let m = met_all (successors A B (pair_at l i)) l x.sane in
      let n = begins_length l (follow l i) m.1 in
      let f = x.fuel in
      record { sane = m.0; fuel = omega arith; low = omega arith; closed = λ j a b. pick m n j a b (eq_or_ne j i) }
    where
      pick : MetAll (successors A B (pair_at l i)) l (follow l i) → length l ≤ length (follow l i) → (j : ℕ) → j < suc i → length (follow l i) ≤ most → (j ≡ i) ⊎ (j ≢ i) → Closed (follow l i) j
      pick m n j a b (inl e) p q =
          m.2 b p (subst (λ (z : Pair). In p (successors A B z)) (begins_at l (follow l i) m.1 j (omega arith) ∙ ap (pair_at l) e) q)
      pick m n j a b (inr d) p q =
          begins_in l (follow l i) m.1 p (x.closed j (omega arith) (omega arith) p
          (subst (λ (z : Pair). In p (successors A B z)) (begins_at l (follow l i) m.1 j (omega arith)) q))

  pub explored : (k i : ℕ) (l : List Pair) → Exploring l i k → Explored l (explore A B k i l)
  unfolding explore
  explored zero i l x = record { sane = x.sane; begins = begins_self l; closed = λ h. absurd (let f = x.fuel in let m = x.low in omega arith) }
  explored (suc k) i l x = pick (λ g y. explored k (suc i) g y) (ltb i (length l)) refl
    where
      pick : ((g : List Pair) → Exploring g (suc i) k → Explored g (explore A B k (suc i) g)) → (b : Bool) → ltb i (length l) ≡ b → Explored l (explore A B (suc k) i l)
      pick r true e =
          let h : i < length l = ltb-true _ _ e in
          let y = r (follow l i) (explore_turn k i l x h) in
          let m = met_all (successors A B (pair_at l i)) l x.sane in
          subst⁻¹ (Explored l) (explore_on k i l h)
          (record { sane = y.sane; begins = begins_trans l (follow l i) (explore A B k (suc i) (follow l i)) m.1 y.begins; closed = y.closed })
      pick r false e =
          let m : length l ≤ i = ltb-false _ _ e in
          subst⁻¹ (Explored l) (explore_end (suc k) i l m) (record { sane = x.sane; begins = begins_self l; closed = λ h j a. x.closed j (omega arith) h })

  -- once pair 4,097 is noted, the list stays as it is
  pub explore_full : (k i : ℕ) (l : List Pair) → most < length l → explore A B k i l ≡ l
  unfolding explore
  explore_full zero i l h = refl
  explore_full (suc k) i l h = pick (explore_full k (suc i) l h) (ltb i (length l)) refl
    where
      pick : explore A B k (suc i) l ≡ l → (b : Bool) → ltb i (length l) ≡ b → explore A B (suc k) i l ≡ l
      pick r true e = explore_on k i l (ltb-true _ _ e) ∙ ap (explore A B k (suc i)) (meet_all_full (successors A B (pair_at l i)) l h) ∙ r
      pick r false e = explore_end (suc k) i l (ltb-false _ _ e)

  abbrev root : List Pair
  root = pair A.initial B.initial ∷ []

  pub exploring_start : Exploring root 0 (suc most)
  exploring_start = record { sane = ((λ i. i, tt), lit≤ tt); fuel = omega arith; low = omega arith; closed = λ j h. absurd (not-suc-le-zero h) }

  pub pairs_explored : Explored root (pairs A B)
  unfolding pairs
  pairs_explored = explored (suc most) 0 root exploring_start

  -- ---- the pairs of two chains

  pub pairs_apart : Apart (pairs A B)
  pairs_apart = pairs_explored.sane.0

  pub pairs_most : length (pairs A B) ≤ suc most
  pairs_most = pairs_explored.sane.1

  pub pairs_some : 0 < length (pairs A B)
  pairs_some = begins_length root (pairs A B) pairs_explored.begins

  pub pairs_first : pair_at (pairs A B) 0 ≡ pair A.initial B.initial
  pairs_first = begins_at root (pairs A B) pairs_explored.begins 0 (omega arith)

  -- unless 17 is given, every look-up of a pair that follows finds it
  pub pairs_found : length (pairs A B) ≤ most → (j : ℕ) → j < length (pairs A B) → (p : Pair) → In p (successors A B (pair_at (pairs A B) j))
      → (place p (pairs A B) < length (pairs A B)) × (pair_at (pairs A B) (place p (pairs A B)) ≡ p)
  pairs_found h j a p i =
      let k = place_in p (pairs A B) (pairs_explored.closed h j a p i) in
      (k, (place_at p (pairs A B) k).1)
