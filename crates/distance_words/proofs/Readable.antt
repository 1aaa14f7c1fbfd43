-- When the couplings of n pairs that stand in rows of numbers can be read.
use Prim.Native.Nat.{ℕ, ◌+◌}
use mathlib.Core.Bool.{Bool, ◌&&◌}
use mathlib.Core.List.{List}
use lib.Dec.{leb, ltb}
use lib.ListN.{length, get_or}
use lib.Seq.{slice}
use lib.Ieee.{Float}
use Rattle.numbers.specs.Lists.{all, every}
use Rattle.distance_theory.specs.declared.lent.Store.{Store}

abbrev pub below : ℕ → ℕ → Bool
below n j = ltb j n

-- the coupling of pair k is in the store, and leads to some of n pairs
abbrev pub lies : List ℕ → List ℕ → List ℕ → List Float → ℕ → ℕ → Bool
lies starts lengths places masses n k =
    let a = get_or starts k 0 in
    let b = a + get_or lengths k 0 in
    leb b (length places) && (leb b (length masses) && all (below n) (slice a b places))

-- so does the coupling of each of them
abbrev pub held : List ℕ → List ℕ → List ℕ → List Float → ℕ → Bool
held starts lengths places masses n = leb n (length starts) && (leb n (length lengths) && every (lies starts lengths places masses n) n)

-- ---- the same of couplings that are lent

abbrev pub lies_in : Store → ℕ → ℕ → Bool
lies_in R = lies R.starts.now R.lengths.now R.places.now R.masses.now

abbrev pub held_in : Store → ℕ → Bool
held_in R = held R.starts.now R.lengths.now R.places.now R.masses.now
