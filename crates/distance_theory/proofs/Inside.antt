-- A chain that passes check 4 has its targets among its states, so every pair that is discovered is one of states; and check 13 bounds its rows.
use mathlib.Core.Path.{◌≡◌, refl, sym, subst, subst⁻¹, ap, ◌∙◌}
use Prim.Native.Nat.{ℕ, zero, suc, ◌≤◌, ◌<◌, ◌+◌, ◌-◌, min}
use mathlib.Core.Bool.{Bool, true, false, ◌||◌}
use mathlib.Core.Logic.{◌⊎◌, inl, inr}
use mathlib.Core.List.{List, [], ◌∷◌, map}
use native.Mathlib.Omega.{arith}
use lib.Dec.{eqb, ltb, leb}
use lib.Ieee.{Float}
use lib.ListN.{length, get_or, take, length-take, length-drop, length-map}
use lib.Seq.{slice, get_or-take, get_or-drop}
use borrow.Author.Tests.{ltb-true, ltb-false, leb-true, not-false}
use Rattle.numbers.specs.Lists.{In, span}
use Rattle.numbers.proofs.Bools.{and_t, or_f}
use Rattle.numbers.proofs.Alls.{all_at}
use Rattle.numbers.proofs.Members.{in_at, at_in, in_snoc}
use Rattle.numbers.proofs.Spans.{span_length}
use Rattle.epsdelta_theory.specs.Jumps.{Jump, jumps_of}
use Rattle.epsdelta_theory.proofs.RowReads.{starts_up}
use Rattle.epsdelta_theory.proofs.Rows.{at_map_span}
use Rattle.chain_theory.specs.Chain.{Chain}
use Rattle.chain_theory.specs.Columns.{ChainColumns, begins, entries, chain_of}
use Rattle.chain_theory.specs.Check.{proper, improper}
use Rattle.chain_theory.specs.declared.ChainShape.{ChainShape}
use Rattle.chain_theory.proofs.Shaped.{Shaped}
use Rattle.distance_theory.specs.Pairs.{Pair, pair, pair_at, place, most, noted, meet, meet_all, target_pair, row_of, successors, explore, pairs}
use Rattle.distance_theory.proofs.Crossings.{cross_all}
use Rattle.distance_theory.proofs.Explore.{follow, explore_on, explore_end}

-- ---- pairs of states

abbrev pub Below : ℕ → List Jump → Type 0
Below n es = (e : Jump) → In e es → e.target < n

-- every entry of every row leads to one of n states, and the initial state is one
pub record Sound (n : ℕ) (A : Chain) : Type 0 where
  pub initial : A.initial < n
  pub rows : (x : ℕ) → x < n → Below n (row_of A x)

abbrev pub Of : ℕ → ℕ → Pair → Type 0
Of m n p = (p.left < m) × (p.right < n)

abbrev pub AllOf : ℕ → ℕ → List Pair → Type 0
AllOf m n l = (p : Pair) → In p l → Of m n p

meet_of : (m n : ℕ) (q : Pair) (l : List Pair) → Of m n q → AllOf m n l → AllOf m n (meet q l)
unfolding meet
meet_of m n q l h a = pick (ltb (place q l) (length l) || ltb most (length l))
  where
    snoc : (p : Pair) → In p l ⊎ (p ≡ q) → Of m n p
    snoc p (inl i) = a p i
    snoc p (inr e) = subst⁻¹ (Of m n) e h

    pick : (b : Bool) → AllOf m n (noted b q l)
    pick true p i = a p i
    pick false p i = snoc p (in_snoc p q l i)

meet_all_of : (m n : ℕ) (ps l : List Pair) → AllOf m n ps → AllOf m n l → AllOf m n (meet_all ps l)
unfolding meet_all
meet_all_of m n [] l h a = a
meet_all_of m n (q ∷ ps) l h a = meet_all_of m n ps (meet q l) (λ p i. h p (inr i)) (meet_of m n q l (h q (inl refl)) a)

module _ (m n : ℕ) (A B : Chain) (S : Sound m A) (U : Sound n B) where
  pub successors_of_lem : (p : Pair) → Of m n p → AllOf m n (successors A B p)
  successors_of_lem p o = cross_all target_pair (Of m n) (row_of A p.left) (row_of B p.right) (λ e f i j. (S.rows p.left o.0 e i, U.rows p.right o.1 f j))

  pub explore_of : (k i : ℕ) (l : List Pair) → AllOf m n l → AllOf m n (explore A B k i l)
  unfolding explore
  explore_of zero i l a = a
  explore_of (suc k) i l a = pick (λ g h. explore_of k (suc i) g h) (ltb i (length l)) refl
    where
      pick : ((g : List Pair) → AllOf m n g → AllOf m n (explore A B k (suc i) g)) → (b : Bool) → ltb i (length l) ≡ b → AllOf m n (explore A B (suc k) i l)
      pick r true e =
          let h : i < length l = ltb-true _ _ e in
          subst⁻¹ (AllOf m n) (explore_on A B k i l h) (r (follow A B l i)
          (meet_all_of m n (successors A B (pair_at l i)) l (successors_of_lem (pair_at l i) (a (pair_at l i) (in_at l i (pair 0 0) h))) a))
      pick r false e = subst⁻¹ (AllOf m n) (explore_end A B (suc k) i l (ltb-false _ _ e)) a

  -- every pair that is discovered is one of states
  pub pairs_of : AllOf m n (pairs A B)
  unfolding pairs
  pairs_of = explore_of (suc most) 0 (pair A.initial B.initial ∷ []) start
    where
      start : AllOf m n (pair A.initial B.initial ∷ [])
      start p (inl e) = subst⁻¹ (Of m n) e (S.initial, U.initial)
      start p (inr i) = absurd i

-- ---- a chain handed in

pub row_at : (H : ChainShape) (C : ChainColumns) (x : ℕ) → x < H.states → row_of (chain_of H C) x ≡ entries C x
unfolding chain_of
row_at H C x h = at_map_span (entries C) 0 H.states x [] h ∙ (let z : 0 + x ≡ x = omega arith in ap (entries C) z)

jumps_target : (T : List ℕ) (P : List Float) (e : Jump) → In e (jumps_of T P) → In e.target T
unfolding jumps_of
jumps_target [] P e i = absurd i
jumps_target (t ∷ T) [] e i = absurd i
jumps_target (t ∷ T) (p ∷ P) e (inl q) = inl (ap (λ (x : Jump). x.target) q)
jumps_target (t ∷ T) (p ∷ P) e (inr i) = inr (jumps_target T P e i)

slice_below : (n a b : ℕ) (l : List ℕ) → ((i : ℕ) → i < b → get_or l i 0 < n) → (x : ℕ) → In x (slice a b l) → x < n
slice_below n a b l f x i =
    let (j, h, e) = at_in x (slice a b l) 0 i in
    let q : length (slice a b l) ≡ length (take b l) - a = length-drop a (take b l) in
    let r : length (take b l) ≡ min b (length l) = length-take b l in
    let s : a + j < b = omega arith in
    subst (λ (y : ℕ). y < n) (sym (get_or-take b l (a + j) 0 s) ∙ sym (get_or-drop a (take b l) j 0) ∙ e) (f (a + j) s)

entries_below : (H : ChainShape) (C : ChainColumns) → Shaped H C → (x : ℕ) → x < H.states → Below H.states (entries C x)
entries_below H C S x h e i =
    let u = starts_up C.offsets H.states S.rows.rise (x + 1) H.states (omega arith) (omega arith) in
    let w = S.last in
    slice_below H.states (begins C x) (begins C (x + 1)) C.targets (λ j g. S.aimed j (omega arith)) e.target
    (jumps_target (slice (begins C x) (begins C (x + 1)) C.targets) (slice (begins C x) (begins C (x + 1)) C.probabilities) e i)

-- check 4 makes it sound
pub chain_sound : (H : ChainShape) (C : ChainColumns) → Shaped H C → Sound H.states (chain_of H C)
unfolding chain_of
chain_sound H C S = record { initial = S.initial; rows = λ x h. subst⁻¹ (Below H.states) (row_at H C x h) (entries_below H C S x h) }

-- ---- check 13

pub row_proper : (H : ChainShape) (C : ChainColumns) → improper H C ≡ false → (x : ℕ) → x < H.states → proper (row_of (chain_of H C) x) ≡ true
unfolding chain_of
row_proper H C e x h =
    let (a, f) = or_f (eqb H.states 0) _ e in
    let (b, g) = or_f (ltb 2000 H.states) _ f in
    all_at proper (map (entries C) (span 0 H.states)) [] (not-false _ g) x (let l = length-map (span 0 H.states) (entries C) in let s = span_length 0 H.states in omega arith)

pub proper_few : (es : List Jump) → proper es ≡ true → (0 < length es) × (length es ≤ 32)
unfolding proper
proper_few es e =
    let (a, f) = and_t (ltb 0 (length es)) _ e in
    let (b, g) = and_t (leb (length es) 32) _ f in
    (ltb-true _ _ a, leb-true _ _ b)
