-- Which rows fit a flow test.
use Rattle.std.specs.Prelude.{ℕ, Bool, ◌&&◌, List, eqb, leb, length, Float}
use Rattle.std.specs.Float.Ieee.{le}
use Rattle.numbers.specs.Real.{nought, greatest_weight}
use Rattle.numbers.specs.Lists.{all}

-- a divided rate from 0 to 2^40
abbrev pub rate_fits : Float → Bool
rate_fits w = le nought w && le w greatest_weight

-- a row of at most 31 targets, with a rate for each
abbrev pub row_fits : List ℕ → List Float → Bool
row_fits ts ws = leb (length ts) 31 && (eqb (length ws) (length ts) && all rate_fits ws)

-- two rows, and a relation over at most 2,000 states
abbrev pub fits : List ℕ → List Float → List ℕ → List Float → ℕ → Bool
fits us vs ts ws n = leb n 2000 && (row_fits us vs && row_fits ts ws)
