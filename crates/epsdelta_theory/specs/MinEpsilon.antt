-- `min_epsilon` of epsdelta.rs: ε = 1 first, then ε = 0, then the halves of what lies between, over any test of an ε; and what is claimed of it.
use Rattle.std.specs.Prelude.{◌≡◌, ℕ, zero, suc, ◌≤◌, Bool, true, false, List, [], ◌∷◌, length, Float}
use Rattle.std.specs.Float.{binary64}
use Rattle.std.specs.Float.Ieee.{lt, add, sub, mul}
use Rattle.numbers.specs.Lists.{all}
use Rattle.numbers.specs.Real.{nought, one, half, fineness, is_valid}
use Rattle.bisim_core.specs.Data.{Columns}
use Rattle.bisim_core.specs.declared.wlts.Shape.{Shape}
use Rattle.epsdelta_theory.specs.Bisimilar.{bisimilar}

-- ---- halvings

-- are the bounds further apart than 1e-4
unfoldable pub wide : Float → Float → Bool
unfolding lt sub
wide lo hi = lt fineness (sub binary64 hi lo)

-- 0.5 × (lo + hi)
unfoldable pub middle : Float → Float → Float
unfolding add mul
middle lo hi = mul binary64 half (add binary64 lo hi)

-- the bounds at the end, and the ε's tried, in order
pub record Halving : Type 0 where
  pub lo : Float
  pub hi : Float
  pub tried : List Float

-- ε was tried before these
abbrev pub after : Float → Halving → Halving
after ε h = record { lo = h.lo; hi = h.hi; tried = ε ∷ h.tried }

-- while the bounds are wide, at most n times: the middle is the new upper bound where the test holds at it, else the new lower one
unfoldable pub bisect : (Float → Bool) → ℕ → Float → Float → Halving
unfolding wide middle
bisect holds zero lo hi = record { lo = lo; hi = hi; tried = [] }
bisect holds (suc n) lo hi =
    elim (wide lo hi) [
      | true ↦ let ε = middle lo hi in after ε (elim (holds ε) [ true ↦ bisect holds n lo ε | false ↦ bisect holds n ε hi ])
      | false ↦ record { lo = lo; hi = hi; tried = [] }
    ]

-- from 0 and 1; they end by their own test after 14, so that 64 are never made
unfoldable pub halving : (Float → Bool) → Halving
unfolding bisect
halving holds = bisect holds 64 nought one

-- ---- the whole search

-- the least ε found, or none
pub data Least : Type 0 where
  at : Float → Least
  none : Least

-- it, and the ε's tried, in order
pub record Search : Type 0 where
  pub least : Least
  pub tried : List Float

-- ε = 1, then ε = 0, then the upper bound that halvings came to
abbrev pub found : (Float → Bool) → Halving → Search
found holds h =
    elim (holds one) [
      | true ↦ elim (holds nought) [
        | true ↦ record { least = at nought; tried = one ∷ nought ∷ [] }
        | false ↦ record { least = at h.hi; tried = one ∷ nought ∷ h.tried }
      ]
      | false ↦ record { least = none; tried = one ∷ [] }
    ]

unfoldable pub search : (Float → Bool) → Search
unfolding halving
search holds = found holds (halving holds)

-- the test of `min_epsilon`: two models, a list of classes for each, ρ, and the ε that is tried
abbrev pub alike_at : Shape → Columns → Shape → Columns → List ℕ → List ℕ → Float → Float → Bool
alike_at SL ML SR MR cl cr ρ ε = bisimilar SL ML SR MR cl cr ε ρ

unfoldable pub min_epsilon : Shape → Columns → Shape → Columns → List ℕ → List ℕ → Float → Search
unfolding search bisimilar
min_epsilon SL ML SR MR cl cr ρ = search (alike_at SL ML SR MR cl cr ρ)

-- ---- the claim

-- x is what the search with this test gives
pub record Searched (holds : Float → Bool) (x : Search) : Type 0 where
  -- which runs are behind each answer: at 1; at 1 and 0; at these and the halvings, whose upper bound it then is
  pub at_one : holds one ≡ false → x ≡ record { least = none; tried = one ∷ [] }
  pub at_nought : holds one ≡ true → holds nought ≡ true → x ≡ record { least = at nought; tried = one ∷ nought ∷ [] }
  pub between : holds one ≡ true → holds nought ≡ false → x ≡ record { least = at (halving holds).hi; tried = one ∷ nought ∷ (halving holds).tried }
  -- at most 16 runs, each at a valid ε
  pub runs : length x.tried ≤ 16
  pub valid : all is_valid x.tried ≡ true
  -- none exactly where ε = 1 fails
  pub none_fails : x.least ≡ none → holds one ≡ false
  pub fails_none : holds one ≡ false → x.least ≡ none
  -- the test holds at the answer
  pub at_holds : (ε : Float) → x.least ≡ at ε → holds ε ≡ true
  -- the halvings are 14, and end by their own test, with bounds at the lower of which the test fails if it fails at 0
  pub halvings : length (halving holds).tried ≡ 14
  pub ended : wide (halving holds).lo (halving holds).hi ≡ false
  pub fails_below : holds nought ≡ false → holds (halving holds).lo ≡ false
