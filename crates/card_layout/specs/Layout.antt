-- Lines of numbers in columns of six: how they are laid out, and the numbers that stand in them.
use Rattle.std.specs.Prelude.{Bool, true, false, cond, ◌&&◌, List, [], ◌∷◌, ◌++◌, ℕ, zero, suc, ◌+◌, ◌*◌, ◌-◌, ◌/◌, ◌%◌, eqb, ltb, get_or, drop}

-- ---- laying out

-- the byte at the place of the power p: a space above the first digit of n, else a digit
unfoldable pub place : ℕ → ℕ → ℕ
place p n = cond (ltb n p) 32 (48 + n / p % 10)

-- six bytes: a decimal number of up to 999,999 without leading zeros, right-justified, padded with spaces; of a larger one the last six digits
unfoldable pub column : ℕ → List ℕ
column n = place 100000 n ∷ place 10000 n ∷ place 1000 n ∷ place 100 n ∷ place 10 n ∷ (48 + n % 10) ∷ []

-- a line: its columns, and the line feed that ends it
unfoldable pub line : List ℕ → List ℕ
line [] = 10 ∷ []
line (n ∷ ns) = column n ++ line ns

-- lines, one after the other
unfoldable pub lines : List (List ℕ) → List ℕ
lines [] = []
lines (r ∷ rs) = line r ++ lines rs

-- ---- the numbers that stand in lines

-- what a byte counts as a digit; a space counts 0
unfoldable pub digit : ℕ → ℕ
digit b = b - 48

-- the number in the first six bytes
unfoldable pub value : List ℕ → ℕ
value bs =
    100000 * digit (get_or bs 0 0) + 10000 * digit (get_or bs 1 0) + 1000 * digit (get_or bs 2 0)
    + 100 * digit (get_or bs 3 0) + 10 * digit (get_or bs 4 0) + digit (get_or bs 5 0)

-- the numbers of the first k columns
unfoldable pub numbers : ℕ → List ℕ → List ℕ
numbers zero bs = []
numbers (suc k) bs = value bs ∷ numbers k (drop 6 bs)

-- the numbers of n lines of k columns
unfoldable pub rows : ℕ → ℕ → List ℕ → List (List ℕ)
rows zero k bs = []
rows (suc n) k bs = numbers k bs ∷ rows n k (drop (6 * k + 1) bs)

-- ---- lines as laid out

-- the bytes begin with the list
unfoldable pub starts : List ℕ → List ℕ → Bool
starts [] bs = true
starts (x ∷ xs) [] = false
starts (x ∷ xs) (b ∷ bs) = eqb b x && starts xs bs

-- n lines of k columns are as laid out
abbrev pub laid : ℕ → ℕ → List ℕ → Bool
laid n k bs = starts (lines (rows n k bs)) bs
