-- Checks of several arguments, their numbers rising: the earlier of two refusals is that of the checks put together.
use mathlib.Core.Path.{◌≡◌, refl, sym, ap, ◌∙◌}
use mathlib.Core.Logic.{◌⊎◌, inl, inr}
use mathlib.Core.Bool.{Bool, true, false, ◌||◌}
use Prim.Native.Nat.{ℕ, ◌<◌}
use mathlib.Core.List.{List, [], ◌∷◌}
use native.Mathlib.Omega.{arith}
use lib.ListN.{length}
use lib.Dec.{leb}
use lib.Ieee.{Float}
use Rattle.numbers.specs.Real.{least_observation, greatest_weight}
use Rattle.numbers.specs.Refuse.{check}
use Rattle.bisim_core.specs.Data.{Columns}
use Rattle.bisim_core.specs.declared.wlts.Shape.{Shape}
use Rattle.bisim_core.specs.Model.{large, unfit, weights_outside, crowded}
use Rattle.epsdelta_theory.specs.Refusal.{absent}
use Rattle.parts.specs.Earlier.{earlier}
use Rattle.parts.proofs.Earlier.{of_right, of_left, lower, higher}
use Rattle.chain_theory.specs.Columns.{ChainColumns}
use Rattle.chain_theory.specs.Check.{discount_outside, unfitting, cramped}
use Rattle.distance_theory.specs.Refusal.{short, excessive, bisim_refusal}
use Rattle.distance_theory.specs.declared.MetricOptions.{MetricOptions}
use Rattle.bisim_checks.specs.Sides.{side_refusal, rest_refusal}

-- ---- a row of checks, each made of two

abbrev Checks : Type 0
Checks = List (ℕ × (Bool × Bool))

abbrev first : (Bool × Bool → Bool) → Checks → ℕ
first f [] = 0
first f (c ∷ cs) = check c.0 (f c.1) (first f cs)

abbrev either : Bool × Bool → Bool
either p = p.0 || p.1

-- their numbers rise, and are above k
abbrev Rise : ℕ → Checks → Type 0
Rise k [] = Unit {0}
Rise k (c ∷ cs) = (k < c.0) × Rise c.0 cs

-- no refusal, or a later one than k
abbrev Later : ℕ → ℕ → Type 0
Later k x = (x ≡ 0) ⊎ (k < x)

check_later : (j k : ℕ) (a : Bool) (x : ℕ) → j < k → Later k x → Later j (check k a x)
check_later j k true x h l = inr h
check_later j k false x h (inl e) = inl e
check_later j k false x h (inr l) = inr (omega arith)

first_later : (f : Bool × Bool → Bool) (cs : Checks) (k : ℕ) → Rise k cs → Later k (first f cs)
first_later f [] k r = inl refl
first_later f (c ∷ cs) k (h, r) = check_later k c.0 (f c.1) (first f cs) h (first_later f cs c.0 r)

both_check : (k n : ℕ) (a b : Bool) (x y : ℕ) → k < n → Later n x → Later n y → earlier (check n a x) (check n b y) ≡ check n (a || b) (earlier x y)
both_check k n true true x y h l m = sym (higher n n (λ e. omega arith) (omega arith))
both_check k n true false x y h l (inl e) = sym (of_left n y e)
both_check k n true false x y h l (inr m) = sym (lower n y (λ e. omega arith) m)
both_check k n false true x y h (inl e) m = sym (of_right x n e)
both_check k n false true x y h (inr l) m = sym (higher x n (λ e. omega arith) (omega arith))
both_check k n false false x y h l m = refl

both : (cs : Checks) (k : ℕ) → Rise k cs → earlier (first (λ p. p.0) cs) (first (λ p. p.1) cs) ≡ first either cs
both [] k r = refl
both (c ∷ cs) k (h, r) =
    both_check k c.0 c.1.0 c.1.1 (first (λ p. p.0) cs) (first (λ p. p.1) cs) h (first_later (λ p. p.0) cs c.0 r) (first_later (λ p. p.1) cs c.0 r)
    ∙ ap (check c.0 (either c.1)) (both cs c.0 r)

-- ---- tests in another order

states_last : (s u t v : Bool) → ((s || u) || (t || v)) ≡ (u || (v || (s || t)))
states_last true true t v = refl
states_last true false t true = refl
states_last true false t false = refl
states_last false true t v = refl
states_last false false true true = refl
states_last false false true false = refl
states_last false false false true = refl
states_last false false false false = refl

first_last : (s a b : Bool) → (s || (a || b)) ≡ (a || (b || s))
first_last true true b = refl
first_last true false true = refl
first_last true false false = refl
first_last false true b = refl
first_last false false true = refl
first_last false false false = refl

or_none : (a : Bool) → (a || false) ≡ a
or_none true = refl
or_none false = refl

-- ---- the nine checks of `bisim_distance`

abbrev nine : Bool → Bool → Bool → Bool → Bool → Bool → Bool → Bool → Bool → ℕ
nine a b c d e f g h i = check 3 a (check 4 b (check 5 c (check 6 d (check 7 e (check 8 f (check 11 g (check 12 h (check 14 i 0))))))))

abbrev paired : (a b c d e f g h i a' b' c' d' e' f' g' h' i' : Bool) → Checks
paired a b c d e f g h i a' b' c' d' e' f' g' h' i' = (3, (a, a')) ∷ (4, (b, b')) ∷ (5, (c, c')) ∷ (6, (d, d')) ∷ (7, (e, e')) ∷ (8, (f, f')) ∷ (11, (g, g')) ∷ (12, (h, h')) ∷ (14, (i, i')) ∷ []

both_nine : (a b c d e f g h i a' b' c' d' e' f' g' h' i' : Bool) → earlier (nine a b c d e f g h i) (nine a' b' c' d' e' f' g' h' i') ≡ nine (a || a') (b || b') (c || c') (d || d') (e || e') (f || f') (g || g') (h || h') (i || i')
both_nine a b c d e f g h i a' b' c' d' e' f' g' h' i' =
    both (paired a b c d e f g h i a' b' c' d' e' f' g' h' i') 0 (omega arith, (omega arith, (omega arith, (omega arith, (omega arith, (omega arith, (omega arith, (omega arith, (omega arith, tt)))))))))

module _ (SL : Shape) (ML : Columns) (s : ℕ) (seenL : List Float) (CL : ChainColumns) (SR : Shape) (MR : Columns) (t : ℕ) (seenR : List Float) (CR : ChainColumns) (γ : Float) (o : MetricOptions) (lists : List ℕ) (records : ℕ) where
  abbrev cramps : Shape → List Float → ChainColumns → Bool
  cramps S seen C = cramped S.states S.edges (length seen) C

  abbrev strays : Shape → List Float → Bool
  strays S seen = unfitting least_observation greatest_weight S.states seen

  sides : earlier (side_refusal SL ML s seenL CL) (side_refusal SR MR t seenR CR)
      ≡ nine (large SL || large SR) ((leb SL.states s || unfit SL ML) || (leb SR.states t || unfit SR MR)) (weights_outside SL ML || weights_outside SR MR) (crowded SL ML || crowded SR MR) (cramps SL seenL CL || cramps SR seenR CR) (absent SL.initial || absent SR.initial) false (strays SL seenL || strays SR seenR) false
  unfolding side_refusal
  sides =
      both_nine (large SL) (leb SL.states s || unfit SL ML) (weights_outside SL ML) (crowded SL ML) (cramps SL seenL CL) (absent SL.initial) false (strays SL seenL) false
      (large SR) (leb SR.states t || unfit SR MR) (weights_outside SR MR) (crowded SR MR) (cramps SR seenR CR) (absent SR.initial) false (strays SR seenR) false

  together : earlier (rest_refusal γ o lists records) (earlier (side_refusal SL ML s seenL CL) (side_refusal SR MR t seenR CR)) ≡ bisim_refusal SL ML s seenL CL SR MR t seenR CR γ o lists records
  unfolding rest_refusal bisim_refusal
  together =
      let a = large SL || large SR in
      let c = weights_outside SL ML || weights_outside SR MR in
      let d = crowded SL ML || crowded SR MR in
      let f = absent SL.initial || absent SR.initial in
      let h = strays SL seenL || strays SR seenR in
      let b = (leb SL.states s || unfit SL ML) || (leb SR.states t || unfit SR MR) in
      let b' = unfit SL ML || (unfit SR MR || (leb SL.states s || leb SR.states t)) in
      let e = cramps SL seenL CL || cramps SR seenR CR in
      let e' = cramps SL seenL CL || (cramps SR seenR CR || short lists records) in
      ap (earlier (rest_refusal γ o lists records)) sides
      ∙ both_nine false false false false (short lists records) false (discount_outside γ) false (excessive o) a b c d e f false h false
      ∙ ap (λ (x : Bool). nine a x c d (short lists records || e) f (discount_outside γ || false) h (excessive o || false)) (states_last (leb SL.states s) (unfit SL ML) (leb SR.states t) (unfit SR MR))
      ∙ ap (λ (x : Bool). nine a b' c d x f (discount_outside γ || false) h (excessive o || false)) (first_last (short lists records) (cramps SL seenL CL) (cramps SR seenR CR))
      ∙ ap (λ (x : Bool). nine a b' c d e' f x h (excessive o || false)) (or_none (discount_outside γ))
      ∙ ap (λ (x : Bool). nine a b' c d e' f (discount_outside γ) h x) (or_none (excessive o))

  pub total : (x y z k n : ℕ) → x ≡ side_refusal SL ML s seenL CL → y ≡ side_refusal SR MR t seenR CR → z ≡ rest_refusal γ o lists records → k ≡ earlier x y → n ≡ earlier z k
      → n ≡ bisim_refusal SL ML s seenL CL SR MR t seenR CR γ o lists records
  total x y z k n p q r u v =
      v ∙ ap (λ (w : ℕ). earlier w k) r ∙ ap (earlier (rest_refusal γ o lists records)) (u ∙ ap (λ (w : ℕ). earlier w y) p ∙ ap (earlier (side_refusal SL ML s seenL CL)) q) ∙ together
