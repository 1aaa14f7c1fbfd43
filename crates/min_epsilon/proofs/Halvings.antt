-- The loop of `bisect`: its bounds have k halvings to come, and the definition's halvings from them come to the same upper bound.
use mathlib.Core.Path.{◌≡◌, refl, sym, subst, ap, ◌∙◌}
use Prim.Native.Nat.{ℕ, zero, suc, ◌≤◌, ◌<◌}
use native.Mathlib.Omega.{arith}
use mathlib.Core.Bool.{Bool, true, false, false≢true}
use lib.Dec.{lit≤}
use lib.ListN.{length}
use lib.Ieee.{Float, binary64, lt, add, sub, mul}
use Rattle.numbers.specs.Real.{nought, one, half, fineness, is_valid}
use Rattle.epsdelta_theory.specs.MinEpsilon.{wide, middle, Halving, bisect, halving}
use Rattle.epsdelta_theory.proofs.Halves.{Apart, apart_first, wide_is, middle_valid, apart_lower, apart_upper}
use Rattle.epsdelta_theory.proofs.MinEpsilon.{halved, bisect_lower, bisect_upper, bisect_end}

-- halvings to come
unfoldable pub to_come : Float → Float → ℕ
to_come lo hi = length (bisect (λ _. true) 64 lo hi).tried

to_come_is : (k : ℕ) (lo hi : Float) → Apart k lo hi → to_come lo hi ≡ k
unfolding to_come
to_come_is k lo hi A = (halved (λ _. true) 64 k lo hi (omega (arith, A.few)) A).count

module _ (holds : Float → Bool) where
  -- n are allowed, and k of these are to come
  pub record Going (lo hi : Float) : Type 0 where
    pub k : ℕ
    pub n : ℕ
    pub few : k ≤ n
    pub apart : Apart k lo hi
    pub same : (bisect holds n lo hi).hi ≡ (halving holds).hi

  pub going_start : Going nought one
  unfolding halving
  going_start = record { k = 14; n = 64; few = lit≤ tt; apart = apart_first; same = refl }

  -- the loop is left
  pub going_done : (lo hi : Float) → Going lo hi → lt fineness (sub binary64 hi lo) ≡ false → hi ≡ (halving holds).hi
  unfolding wide
  going_done lo hi G w = sym (ap (λ (h : Halving). h.hi) (bisect_end holds G.n lo hi w)) ∙ G.same

  module _ (lo hi mid : Float) (w : lt fineness (sub binary64 hi lo) ≡ true) (is : mid ≡ mul binary64 half (add binary64 lo hi)) where
    -- a turn: there is one to come, and the middle is valid
    record Turn : Type 0 where
      k : ℕ
      n : ℕ
      few : k ≤ n
      apart : Apart (suc k) lo hi
      same : (bisect holds (suc n) lo hi).hi ≡ (halving holds).hi

    turn : Going lo hi → Turn
    unfolding wide
    turn G = by G.k G.n G.few G.apart G.same
      where
        by : (k n : ℕ) → k ≤ n → Apart k lo hi → (bisect holds n lo hi).hi ≡ (halving holds).hi → Turn
        by zero n l A e = absurd (false≢true (sym (wide_is zero lo hi A) ∙ w))
        by (suc k) zero l A e = absurd (let z : ⊥ = omega arith in z)
        by (suc k) (suc n) l A e = record { k = k; n = n; few = omega arith; apart = A; same = e }

    middle_is : mid ≡ middle lo hi
    unfolding middle
    middle_is = is

    pub going_valid : Going lo hi → is_valid mid ≡ true
    going_valid G = let t = turn G in rw middle_is (middle_valid t.k lo hi t.apart)

    pub going_lower : Going lo hi → (r : Bool) → r ≡ holds mid → r ≡ true → Going lo mid
    unfolding wide
    going_lower G r g h =
        let t = turn G in
        subst (Going lo) (sym middle_is)
        (record {
          k = t.k;
          n = t.n;
          few = t.few;
          apart = apart_lower t.k lo hi t.apart;
          same = sym (ap (λ (x : Halving). x.hi) (bisect_lower holds t.n lo hi w (sym (ap holds middle_is) ∙ sym g ∙ h))) ∙ t.same;
        })

    pub going_upper : Going lo hi → (r : Bool) → r ≡ holds mid → r ≡ false → Going mid hi
    unfolding wide
    going_upper G r g h =
        let t = turn G in
        subst (λ (x : Float). Going x hi) (sym middle_is)
        (record {
          k = t.k;
          n = t.n;
          few = t.few;
          apart = apart_upper t.k lo hi t.apart;
          same = sym (ap (λ (x : Halving). x.hi) (bisect_upper holds t.n lo hi w (sym (ap holds middle_is) ∙ sym g ∙ h))) ∙ t.same;
        })

    pub fewer_lower : Going lo hi → to_come lo mid < to_come lo hi
    fewer_lower G =
        let t = turn G in
        let a = to_come_is (suc t.k) lo hi t.apart in
        let b = ap (to_come lo) middle_is ∙ to_come_is t.k lo (middle lo hi) (apart_lower t.k lo hi t.apart) in
        omega arith

    pub fewer_upper : Going lo hi → to_come mid hi < to_come lo hi
    fewer_upper G =
        let t = turn G in
        let a = to_come_is (suc t.k) lo hi t.apart in
        let b = ap (λ (x : Float). to_come x hi) middle_is ∙ to_come_is t.k (middle lo hi) hi (apart_upper t.k lo hi t.apart) in
        omega arith
