-- A model of at most 32 states has no state with over 31 targets other than itself: they are distinct numbers below the count, and the state is none of them.
use mathlib.Core.Path.{◌≡◌, refl, sym, subst, ◌∙◌}
use mathlib.Core.Logic.{◌⊎◌, inl, inr, ◌≢◌}
use mathlib.Core.Bool.{Bool, true, false, ◌&&◌, not}
use Prim.Native.Nat.{ℕ, zero, suc, ◌+◌, ◌≤◌, ◌<◌}
use mathlib.Core.List.{List, [], ◌∷◌}
use native.Mathlib.Omega.{arith}
use lib.Dec.{eqb}
use lib.ListN.{length}
use borrow.Author.Tests.{eqb-false, le-ltb}
use Rattle.numbers.specs.Lists.{In, span}
use Rattle.numbers.proofs.Bools.{eq_or_ne}
use Rattle.numbers.proofs.Members.{Apart}
use Rattle.numbers.proofs.Spans.{span_length}
use Rattle.bisim_core.specs.Data.{Edge}
use Rattle.bisim_core.specs.Ids.{distinct}
use Rattle.bisim_core.specs.Edges.{chosen, others, crowded_in}
use Rattle.bisim_core.proofs.Models.{crowded_not}
use Rattle.build_theory.proofs.Ranks.{AllE}
use Rattle.build_theory.proofs.Counts.{interned_in, apart_interned, fits}

-- ---- distinct numbers below n are at most n

in_span : (i n x : ℕ) → i ≤ x → x < i + n → In x (span i n)
unfolding span
in_span i zero x a b = absurd (omega arith)
in_span i (suc n) x a b = pick (λ c. in_span (suc i) n x c (omega arith)) (eq_or_ne x i)
  where
    pick : (suc i ≤ x → In x (span (suc i) n)) → (x ≡ i) ⊎ (x ≢ i) → In x (i ∷ span (suc i) n)
    pick r (inl e) = inl e
    pick r (inr e) = inr (r (omega arith))

few : (n : ℕ) (l : List ℕ) → Apart l → ((x : ℕ) → In x l → x < n) → length l ≤ n
few n l a h =
    let f = fits l (span 0 n) a (λ x i. let b = h x i in in_span 0 n x (omega arith) (omega arith)) in
    let e = span_length 0 n in
    omega arith

-- ---- the targets of a state other than itself

others_in : (n s y : ℕ) (E : List Edge) → AllE (λ a. a.target < n) E → In y (others s E) → (y < n) × (y ≢ s)
unfolding others
others_in n s y (a ∷ E) h i = pick (others_in n s y E h.1) (eqb a.source s) (eqb a.target s) refl i
  where
    pick : (In y (others s E) → (y < n) × (y ≢ s)) → (b d : Bool) → eqb a.target s ≡ d → In y (chosen (b && not d) a.target (others s E)) → (y < n) × (y ≢ s)
    pick r false d e k = r k
    pick r true true e k = r k
    pick r true false e (inl q) = (subst (λ (x : ℕ). x < n) (sym q) h.0, λ z. eqb-false a.target s e (sym q ∙ z))
    pick r true false e (inr k) = r k
others_in n s y [] h i = elim i [ ]

module _ (n : ℕ) (E : List Edge) (h : n ≤ 32) (low : AllE (λ a. a.target < n) E) where
  others_few : (s : ℕ) → s < n → length (distinct (others s E)) ≤ 31
  others_few s k =
      let D = distinct (others s E) in
      let l = few n (s ∷ D) (λ i. (inside s i).1 refl, apart_interned [] (others s E) tt) all in
      omega arith
    where
      given : (x : ℕ) → In x [] ⊎ In x (others s E) → In x (others s E)
      given x (inl i) = absurd i
      given x (inr i) = i

      inside : (x : ℕ) → In x (distinct (others s E)) → (x < n) × (x ≢ s)
      inside x i = others_in n s x E low (given x (interned_in x [] (others s E) i))

      all : (x : ℕ) → In x (s ∷ distinct (others s E)) → x < n
      all x (inl e) = subst (λ (y : ℕ). y < n) (sym e) k
      all x (inr i) = (inside x i).0

  -- check 6 of such a model
  pub uncrowded : crowded_in E (span 0 n) ≡ false
  uncrowded = crowded_not E n (λ s k. le-ltb 31 (length (distinct (others s E))) (others_few s k))
