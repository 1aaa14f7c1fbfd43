-- Laws of the sum left to right: one more item, none left, and a list in two parts.
use mathlib.Core.Path.{◌≡◌, refl, sym, ap, ◌∙◌}
use mathlib.Core.List.{List, [], ◌∷◌, ◌++◌}
use Prim.Native.Nat.{ℕ, suc, ◌+◌, ◌<◌, ◌≤◌}
use native.Mathlib.Numerals.{add-one}
use lib.ListN.{length, get_or, take, drop, drop_of_length-le}
use lib.Seq.{drop-cons, take-suc}
use lib.Ieee.{Float, binary64, add, nan}
use Rattle.numbers.specs.Real.{nought, sum_from, sum}

-- the next item is added
pub sum_next : (x : Float) (l : List Float) (i : ℕ) → i < length l → sum_from (add binary64 x (get_or l i nan)) (drop (i + 1) l) ≡ sum_from x (drop i l)
unfolding sum_from
sum_next x l i h = rw (add-one i) (sym (ap (sum_from x) (drop-cons l i nan h)))

-- nothing is left to add
pub sum_end : (x : Float) (l : List Float) (i : ℕ) → length l ≤ i → x ≡ sum_from x (drop i l)
unfolding sum_from
sum_end x l i h = sym (ap (sum_from x) (drop_of_length-le l h))

pub sum_append : (x : Float) (l m : List Float) → sum_from x (l ++ m) ≡ sum_from (sum_from x l) m
unfolding sum_from
sum_append x [] m = refl
sum_append x (y ∷ l) m = sum_append (add binary64 x y) l m

-- the sum of one item more
pub sum_take : (l : List Float) (i : ℕ) → i < length l → sum (take (suc i) l) ≡ add binary64 (sum (take i l)) (get_or l i nan)
unfolding sum sum_from
sum_take l i h = ap (sum_from nought) (take-suc l i nan h) ∙ sum_append nought (take i l) (get_or l i nan ∷ [])
