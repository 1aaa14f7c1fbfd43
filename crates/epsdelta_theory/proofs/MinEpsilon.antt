-- What is proved of the search of `min_epsilon`, whatever the test: by induction over the halvings to come, which Halves counts.
use mathlib.Core.Path.{◌≡◌, refl, sym, subst, subst⁻¹, ap, ◌∙◌}
use Prim.Native.Nat.{ℕ, zero, suc, ◌≤◌}
use native.Mathlib.Omega.{arith}
use mathlib.Core.Bool.{Bool, true, false, ◌&&◌, ◌||◌, not, cond, false≢true}
use mathlib.Core.List.{List, [], ◌∷◌}
use lib.Dec.{lit≤}
use lib.ListN.{length}
use lib.Ieee.{Float, of_bits, of_fields, le, lt, eq}
use Rattle.numbers.specs.Lists.{all}
use Rattle.numbers.specs.Real.{nought, one, is_valid}
use Rattle.bisim_core.specs.Data.{Columns}
use Rattle.bisim_core.specs.declared.wlts.Shape.{Shape}
use Rattle.epsdelta_theory.specs.Refusal.{absent, factor_outside, relation_refusal, bisimilar_refusal, min_epsilon_refusal}
use Rattle.epsdelta_theory.specs.MinEpsilon.{wide, middle, Halving, after, bisect, halving, at, none, Search, found, search, alike_at, min_epsilon, Searched}
use Rattle.epsdelta_theory.proofs.Halves.{Apart, apart_first, wide_is, still_wide, middle_valid, apart_lower, apart_upper}

and_i : {a b : Bool} → a ≡ true → b ≡ true → (a && b) ≡ true
and_i e f = rw (e, f)

at_or_none : (ε : Float) → at ε ≡ none → ⊥
at_or_none ε e = let z : ◌≡◌ {A = ℕ} 0 1 = cc in omega arith

pub one_valid : is_valid one ≡ true
unfolding le lt eq of_bits of_fields
one_valid = refl

pub nought_valid : is_valid nought ≡ true
unfolding le lt eq of_bits of_fields
nought_valid = refl

none_tried : all is_valid [] ≡ true
unfolding all
none_tried = refl

module _ (holds : Float → Bool) where
  -- a halving after which the test holds at the middle, one after which it fails, and the end
  pub bisect_lower : (n : ℕ) (lo hi : Float) → wide lo hi ≡ true → holds (middle lo hi) ≡ true → bisect holds (suc n) lo hi ≡ after (middle lo hi) (bisect holds n lo (middle lo hi))
  unfolding bisect
  bisect_lower n lo hi w h = rw (w, h, bisect)

  pub bisect_upper : (n : ℕ) (lo hi : Float) → wide lo hi ≡ true → holds (middle lo hi) ≡ false → bisect holds (suc n) lo hi ≡ after (middle lo hi) (bisect holds n (middle lo hi) hi)
  unfolding bisect
  bisect_upper n lo hi w h = rw (w, h, bisect)

  pub bisect_end : (n : ℕ) (lo hi : Float) → wide lo hi ≡ false → bisect holds n lo hi ≡ record { lo = lo; hi = hi; tried = [] }
  unfolding bisect
  bisect_end zero lo hi w = refl
  bisect_end (suc n) lo hi w = rw (w, bisect)

  -- halvings, k in number, that end by their own test, having begun at lo and hi
  pub record Halved (k : ℕ) (lo hi : Float) (h : Halving) : Type 0 where
    pub count : length h.tried ≡ k
    pub valid : all is_valid h.tried ≡ true
    pub ended : wide h.lo h.hi ≡ false
    pub below : holds lo ≡ false → holds h.lo ≡ false
    pub above : holds hi ≡ true → holds h.hi ≡ true

  -- one more, by how the test at the middle ends
  halved_turn : (n k : ℕ) (lo hi : Float) (A : Apart (suc k) lo hi) → Halved k lo (middle lo hi) (bisect holds n lo (middle lo hi)) → Halved k (middle lo hi) hi (bisect holds n (middle lo hi) hi)
      → (b : Bool) → holds (middle lo hi) ≡ b → Halved (suc k) lo hi (bisect holds (suc n) lo hi)
  unfolding all
  halved_turn n k lo hi A L U true e =
      subst⁻¹ (Halved (suc k) lo hi) (bisect_lower n lo hi (still_wide k lo hi A) e)
      (record { count = ap suc L.count; valid = and_i (middle_valid k lo hi A) L.valid; ended = L.ended; below = L.below; above = λ _. L.above e })
  halved_turn n k lo hi A L U false e =
      subst⁻¹ (Halved (suc k) lo hi) (bisect_upper n lo hi (still_wide k lo hi A) e)
      (record { count = ap suc U.count; valid = and_i (middle_valid k lo hi A) U.valid; ended = U.ended; below = λ _. U.below e; above = U.above })

  -- no matter how many are allowed, from k on
  pub halved : (n k : ℕ) (lo hi : Float) → k ≤ n → Apart k lo hi → Halved k lo hi (bisect holds n lo hi)
  halved n zero lo hi l A =
      subst⁻¹ (Halved zero lo hi) (bisect_end n lo hi (wide_is zero lo hi A))
      (record { count = refl; valid = none_tried; ended = wide_is zero lo hi A; below = λ e. e; above = λ e. e })
  halved zero (suc k) lo hi l A = absurd (let z : ⊥ = omega arith in z)
  halved (suc n) (suc k) lo hi l A =
      halved_turn n k lo hi A (halved n k lo (middle lo hi) (omega arith) (apart_lower k lo hi A)) (halved n k (middle lo hi) hi (omega arith) (apart_upper k lo hi A)) (holds (middle lo hi)) refl

  -- of the halvings from 0 and 1
  all_halved : Halved 14 nought one (halving holds)
  unfolding halving
  all_halved = halved 64 14 nought one (lit≤ tt) apart_first

  -- the search by what the test gives at 1 and at 0, and what halvings came to
  abbrev decided : Bool → Bool → Halving → Search
  decided a b h =
      elim a [
        | true ↦ elim b [
          | true ↦ record { least = at nought; tried = one ∷ nought ∷ [] }
          | false ↦ record { least = at h.hi; tried = one ∷ nought ∷ h.tried }
        ]
        | false ↦ record { least = none; tried = one ∷ [] }
      ]

  found_is : (h : Halving) → found holds h ≡ decided (holds one) (holds nought) h
  found_is h = refl

  found_between : (h : Halving) → holds one ≡ true → holds nought ≡ false → found holds h ≡ record { least = at h.hi; tried = one ∷ nought ∷ h.tried }
  found_between h e f = rw (e, f, found) refl

  search_is : search holds ≡ decided (holds one) (holds nought) (halving holds)
  unfolding search
  search_is = found_is (halving holds)

  -- how it ends
  pub search_none : holds one ≡ false → search holds ≡ record { least = none; tried = one ∷ [] }
  search_none e = search_is ∙ ap (λ (a : Bool). decided a (holds nought) (halving holds)) e

  search_nought : holds one ≡ true → holds nought ≡ true → search holds ≡ record { least = at nought; tried = one ∷ nought ∷ [] }
  search_nought e f = search_is ∙ ap (λ (a : Bool). decided a (holds nought) (halving holds)) e ∙ ap (λ (b : Bool). decided true b (halving holds)) f

  search_between : holds one ≡ true → holds nought ≡ false → search holds ≡ record { least = at (halving holds).hi; tried = one ∷ nought ∷ (halving holds).tried }
  unfolding search
  search_between e f = found_between (halving holds) e f

  -- what is found where the test holds at 1
  abbrev pub below_one : Float
  below_one = cond (holds nought) nought (halving holds).hi

  pub below_one_lem : holds one ≡ true → at below_one ≡ (search holds).least
  below_one_lem h = by (holds nought) refl
    where
      by : (b : Bool) → holds nought ≡ b → at below_one ≡ (search holds).least
      by true g = ap (λ (b : Bool). at (cond b nought (halving holds).hi)) g ∙ ap (λ (x : Search). x.least) (sym (search_nought h g))
      by false g = ap (λ (b : Bool). at (cond b nought (halving holds).hi)) g ∙ ap (λ (x : Search). x.least) (sym (search_between h g))

  pub searched : Searched holds (search holds)
  unfolding all
  searched = by (holds one) (holds nought) refl refl
    where
      ends : (x : Search) → (holds one ≡ false → x ≡ record { least = none; tried = one ∷ [] }) → (holds one ≡ true → holds nought ≡ true → x ≡ record { least = at nought; tried = one ∷ nought ∷ [] }) → (holds one ≡ true → holds nought ≡ false → x ≡ record { least = at (halving holds).hi; tried = one ∷ nought ∷ (halving holds).tried }) → length x.tried ≤ 16 → all is_valid x.tried ≡ true → (x.least ≡ none → holds one ≡ false) → (holds one ≡ false → x.least ≡ none) → ((ε : Float) → x.least ≡ at ε → holds ε ≡ true) → Searched holds x
      ends x p q r a b c d e = record { at_one = p; at_nought = q; between = r; runs = a; valid = b; none_fails = c; fails_none = d; at_holds = e; halvings = all_halved.count; ended = all_halved.ended; fails_below = all_halved.below }

      by : (a b : Bool) → holds one ≡ a → holds nought ≡ b → Searched holds (search holds)
      by false b e f = subst⁻¹ (Searched holds) (search_none e) (ends _ (λ _. refl) (λ g h. absurd (false≢true (sym e ∙ g))) (λ g h. absurd (false≢true (sym e ∙ g))) (lit≤ tt) (and_i one_valid refl) (λ _. e) (λ _. refl) (λ ε g. absurd (at_or_none ε (sym g))))
      by true true e f = subst⁻¹ (Searched holds) (search_nought e f) (ends _ (λ g. absurd (false≢true (sym g ∙ e))) (λ _ _. refl) (λ g h. absurd (false≢true (sym h ∙ f))) (lit≤ tt) (and_i one_valid (and_i nought_valid refl)) (λ g. absurd (at_or_none _ g)) (λ g. absurd (false≢true (sym g ∙ e))) (λ ε g. (let z : nought ≡ ε = cc in subst (λ (x : Float). holds x ≡ true) z f)))
      by true false e f =
          subst⁻¹ (Searched holds) (search_between e f)
          (ends _ (λ g. absurd (false≢true (sym g ∙ e))) (λ g h. absurd (false≢true (sym f ∙ h))) (λ _ _. refl) (omega (arith, all_halved.count)) (and_i one_valid (and_i nought_valid all_halved.valid)) (λ g. absurd (at_or_none _ g)) (λ g. absurd (false≢true (sym g ∙ e)))
          (λ ε g. (let z : (halving holds).hi ≡ ε = cc in subst (λ (x : Float). holds x ≡ true) z (all_halved.above e))))

-- ---- of `min_epsilon`

pub min_epsilon_searched : (SL : Shape) (ML : Columns) (SR : Shape) (MR : Columns) (cl cr : List ℕ) (ρ : Float) → Searched (alike_at SL ML SR MR cl cr ρ) (min_epsilon SL ML SR MR cl cr ρ)
unfolding min_epsilon
min_epsilon_searched SL ML SR MR cl cr ρ = searched (alike_at SL ML SR MR cl cr ρ)

-- a run at a valid ε is refused as `min_epsilon` is
pub refused_alike : (SL : Shape) (ML : Columns) (SR : Shape) (MR : Columns) (cl cr : List ℕ) (ε ρ : Float) (bytes : ℕ) → is_valid ε ≡ true
    → bisimilar_refusal SL ML SR MR cl cr ε ρ bytes ≡ min_epsilon_refusal SL ML SR MR cl cr ρ bytes
unfolding bisimilar_refusal min_epsilon_refusal
refused_alike SL ML SR MR cl cr ε ρ bytes v =
    ap (λ (b : Bool). relation_refusal (absent SL.initial || absent SR.initial) (not b || factor_outside ρ) SL ML SR MR cl cr bytes) v
