-- What `transport` turns back, in document 01's order: 7, 15, 16.
use Rattle.std.specs.Prelude.{ℕ, ◌*◌, Bool, not, ◌&&◌, ◌||◌, List, length, ltb, leb, Float}
use Rattle.std.specs.Float.{binary64}
use Rattle.std.specs.Float.Ieee.{mul, lt, le}
use Rattle.numbers.specs.Real.{nought, one, slack, greatest_weight, sum}
use Rattle.numbers.specs.Choice.{larger, apart}
use Rattle.numbers.specs.Lists.{all}
use Rattle.numbers.specs.Refuse.{check}
use Rattle.transport_theory.specs.Links.{cells}

-- 7: fewer than m × n costs, or room for fewer than m × n plan cells
unfoldable pub short : ℕ → ℕ → ℕ → ℕ → ℕ → ℕ → Bool
short m n costs rows columns masses =
    ltb costs (m * n) || (ltb rows (m * n) || (ltb columns (m * n) || ltb masses (m * n)))

-- a mass or a cost from 0 to 2^40, NaN excluded
abbrev pub fits : Float → Bool
fits x = le nought x && le x greatest_weight

-- at most 32 masses on a side, each from 0 to 2^40
unfoldable pub masses_fit : List Float → List Float → Bool
unfolding le all
masses_fit a b = leb (length a) 32 && (leb (length b) 32 && (all fits a && all fits b))

-- each cell's cost from 0 to 2^40
unfoldable pub costs_fit : ℕ → ℕ → List Float → Bool
unfolding le all
costs_fit m n costs = all fits (cells m n costs)

-- 16: the totals differ by over 1e-9 × max(ta, 1)
unfoldable pub unequal : Float → Float → Bool
unfolding apart larger mul lt
unequal ta tb = lt (mul binary64 slack (larger ta one)) (apart ta tb)

-- masses a and b, the lengths of costs and of the plan's columns that are lent; `right` says whether the costs fit
abbrev pub transport_refusal : Bool → List Float → List Float → ℕ → ℕ → ℕ → ℕ → ℕ
transport_refusal right a b costs rows columns masses =
    check 7 (short (length a) (length b) costs rows columns masses)
    (check 15 (not (masses_fit a b && right))
    (check 16 (unequal (sum a) (sum b)) 0))
