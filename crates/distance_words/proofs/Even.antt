-- Whether refusal 16 comes up for pairs whose states stand in two lists, and their rows in the columns of two chains.
use Prim.Native.Nat.{ℕ}
use mathlib.Core.Bool.{Bool, true, false, not, ◌&&◌, ◌||◌}
use mathlib.Core.List.{List, map}
use lib.Dec.{eqb, leb}
use lib.ListN.{length, get_or}
use lib.Ieee.{Float, binary64, mul, div}
use Rattle.numbers.specs.Real.{sum}
use Rattle.numbers.specs.Lists.{every}
use Rattle.chain_theory.specs.Columns.{ChainColumns, row_rates, reads_row}
use Rattle.chain_theory.specs.Lent.{of_chain}
use Rattle.distance_theory.specs.declared.lent.Task.{Task}
use Rattle.transport_theory.specs.Refusal.{unequal}

-- × ta, then / tb
abbrev pub fitted_by : Float → Float → Float → Float
fitted_by ta tb x = div binary64 (mul binary64 x ta) tb

-- `transport` is not asked, or its totals agree
abbrev pub even_rows : List Float → List Float → Bool
even_rows ps qs = (eqb (length ps) 1 || eqb (length qs) 1) || not (unequal (sum ps) (sum (map (fitted_by (sum ps) (sum qs)) qs)))

abbrev pub even_when : Bool → Bool → Bool
even_when true b = b
even_when false b = true

-- states x and y
abbrev pub even_pair : ChainColumns → ChainColumns → ℕ → ℕ → Bool
even_pair C D x y = even_when (reads_row C x && reads_row D y) (even_rows (row_rates C x) (row_rates D y))

-- pair k
abbrev pub even_pairs : List ℕ → List ℕ → ChainColumns → ChainColumns → ℕ → Bool
even_pairs lefts rights C D k = even_pair C D (get_or lefts k 0) (get_or rights k 0)

-- the first n pairs
abbrev pub all_even : ℕ → List ℕ → List ℕ → ChainColumns → ChainColumns → Bool
all_even n lefts rights C D = leb n (length lefts) && (leb n (length rights) && every (even_pairs lefts rights C D) n)

-- the same of a task
abbrev pub even_pair_of : Task → ℕ → Bool
even_pair_of T = even_pairs T.pairs.lefts.now T.pairs.rights.now (of_chain T.left) (of_chain T.right)

abbrev pub all_even_of : Task → Bool
all_even_of T = all_even (length T.pairs.lefts.now) T.pairs.lefts.now T.pairs.rights.now (of_chain T.left) (of_chain T.right)
