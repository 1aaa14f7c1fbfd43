-- What is refused of a chain that is handed in, by document 01's numbers: each check is true where it fails.
use Rattle.std.specs.Prelude.{ℕ, ◌+◌, Bool, true, ◌&&◌, ◌||◌, not, List, [], ◌∷◌, length, take, eqb, ltb, leb, Float}
use Rattle.std.specs.Float.{binary64}
use Rattle.std.specs.Float.Ieee.{add, lt, le}
use Rattle.numbers.specs.Real.{nought, one, slack, sum, least_weight, greatest_rate}
use Rattle.numbers.specs.Choice.{apart}
use Rattle.numbers.specs.Refuse.{check}
use Rattle.numbers.specs.Bounds.{within}
use Rattle.numbers.specs.Lists.{every, all}
use Rattle.epsdelta_theory.specs.Jumps.{Jump, targets, rates}
use Rattle.chain_theory.specs.Columns.{ChainColumns, begins, chain_of}
use Rattle.chain_theory.specs.declared.ChainShape.{ChainShape}

-- 11, of γ: it is not above 0 and below 1
abbrev pub discount_outside : Float → Bool
discount_outside γ = not (lt nought γ && lt γ one)

-- 11, of the rate of `uniformise`: it is not from 2^-40 to 2^64
abbrev pub rate_outside : Float → Bool
rate_outside q = not (within least_weight greatest_rate q)

-- ---- 4

-- too few offsets or entries for the counts
abbrev pub thin : ChainShape → ChainColumns → Bool
thin H C = ltb (length C.offsets) (H.states + 1) || (ltb (length C.targets) H.entries || ltb (length C.probabilities) H.entries)

-- offsets from 0 to the count of entries, without falling
abbrev pub steady : ChainShape → ChainColumns → Bool
steady H C = eqb (begins C 0) 0 && (eqb (begins C H.states) H.entries && every (λ s. leb (begins C s) (begins C (s + 1))) H.states)

-- the initial state or a target is not below the state count, or the columns are not as they must be
abbrev pub misshapen : ChainShape → ChainColumns → Bool
misshapen H C = not (ltb H.initial.0 H.states) || (thin H C || (not (steady H C) || not (all (λ t. ltb t H.states) (take H.entries C.targets))))

-- ---- 7: fewer observations than states

abbrev pub unobserved : ChainShape → ChainColumns → Bool
unobserved H C = ltb (length C.observations) H.states

-- 7, of a chain that is made: fewer observations than states, or lists too short: states + 1 offsets, edges + states entries and an observation for each state
abbrev pub cramped : ℕ → ℕ → ℕ → ChainColumns → Bool
cramped states edges seen C =
    ltb seen states
    || (ltb (length C.offsets) (states + 1)
    || (ltb (length C.targets) (edges + states) || (ltb (length C.probabilities) (edges + states) || ltb (length C.observations) states)))

-- ---- 12: an observation is NaN or outside lo to hi

abbrev pub unfitting : Float → Float → ℕ → List Float → Bool
unfitting lo hi n l = not (all (within lo hi) (take n l))

-- ---- 13

-- targets that rise strictly
abbrev pub next : ℕ → List ℕ → Bool
next x [] = true
next x (y ∷ l) = ltb x y

unfoldable pub ascends : List ℕ → Bool
ascends [] = true
ascends (x ∷ l) = next x l && ascends l

-- a probability above 0, and not above 1 + 1e-9
abbrev pub probable : Float → Bool
probable p = lt nought p && le p (add binary64 one slack)

-- probabilities whose sum is not over 1e-9 from 1
abbrev pub whole : List Float → Bool
whole l = not (lt slack (apart (sum l) one))

-- a row of 1 to 32 entries, with such targets and probabilities
unfoldable pub proper : List Jump → Bool
unfolding ascends all sum apart lt le add
proper es = ltb 0 (length es) && (leb (length es) 32 && (ascends (targets es) && (all probable (rates es) && whole (rates es))))

-- no or over 2,000 states, or a row that is not such
abbrev pub improper : ChainShape → ChainColumns → Bool
improper H C = eqb H.states 0 || (ltb 2000 H.states || not (all proper (chain_of H C).rows))

-- ---- the first check that a chain fails, with observations from lo to hi; 0 if none does

unfoldable pub chain_refusal : Float → Float → ChainShape → ChainColumns → ℕ
unfolding every all le proper chain_of
chain_refusal lo hi H C = check 4 (misshapen H C) (check 7 (unobserved H C) (check 12 (unfitting lo hi H.states C.observations) (check 13 (improper H C) 0)))
