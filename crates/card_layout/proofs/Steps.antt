-- The steps of the code over bytes, as the definitions make them.
use mathlib.Core.Path.{◌≡◌, refl, sym, ap, ◌∙◌}
use mathlib.Core.Bool.{Bool, true, false, ◌&&◌}
use mathlib.Core.List.{List, [], ◌∷◌}
use Prim.Native.Nat.{ℕ, suc, ◌+◌, ◌*◌, ◌-◌, ◌/◌, ◌%◌, ◌≤◌, ◌<◌}
use native.Mathlib.Omega.{arith}
use lib.Dec.{eqb}
use lib.ListN.{length, get_or, take, drop, length-drop}
use lib.Seq.{take_all}
use borrow.Author.Tests.{lt-ltb, le-ltb}
use Rattle.std.proofs.Common.{nat_eq}
use Rattle.std.proofs.lemmas.Bool.Decides.{nat_tests}
use Rattle.std.specs.List.{starts_with}
use Rattle.card_layout.specs.Layout.{place, column, line, lines, digit, value, numbers, rows, starts, laid}
use Rattle.card_layout.proofs.Lines.{line_step, laid_step, starts_length, length_column, length_row, length_rows}

and_true : (b : Bool) → (b && true) ≡ b
and_true true = refl
and_true false = refl

-- ---- a byte, a place, a number

pub place_space : (p n : ℕ) → n < p → 32 ≡ place p n
unfolding place
place_space p n h = rw (lt-ltb n p h)

pub place_digit : (p n : ℕ) → p ≤ n → 48 + n / p % 10 ≡ place p n
unfolding place
place_digit p n h = rw (le-ltb n p h)

-- the number of six digits
pub number_of : (s : List ℕ) (a b d e f g : ℕ) → a ≡ digit (get_or s 0 0) → b ≡ digit (get_or s 1 0) → d ≡ digit (get_or s 2 0) → e ≡ digit (get_or s 3 0)
    → f ≡ digit (get_or s 4 0) → g ≡ digit (get_or s 5 0) → 100000 * a + 10000 * b + 1000 * d + 100 * e + 10 * f + g ≡ value s
unfolding value
number_of s a b d e f g p q r t u v = rw (p, q, r, t, u, v)

-- ---- the bytes of a column, one by one

pub column_of : (n a b d e f : ℕ) → a ≡ place 100000 n → b ≡ place 10000 n → d ≡ place 1000 n → e ≡ place 100 n → f ≡ place 10 n → a ∷ b ∷ d ∷ e ∷ f ∷ (48 + n % 10) ∷ [] ≡ column n
unfolding column
column_of n a b d e f p q r t u = rw (p, q, r, t, u)

eqb_swap : (a b : ℕ) → eqb a b ≡ eqb b a
eqb_swap a b = grind (arith, nat_tests)

-- std's test of the first bytes
pub starts_is : (c bs : List ℕ) → starts c bs ≡ starts_with nat_eq bs c
unfolding starts
starts_is [] bs = refl
starts_is (x ∷ xs) [] = refl
starts_is (x ∷ xs) (b ∷ bs) = rw (eqb_swap b x, starts_is xs bs)

-- ---- the columns of a line, one by one

-- a line of k columns is as laid out: the bytes begin with what the layout writes for its numbers
abbrev pub line_laid : ℕ → List ℕ → Bool
line_laid k bs = starts (line (numbers k bs)) bs

-- what std's test answers at a column that the bytes' number gives
pub first_is : (bs c : List ℕ) (n : ℕ) (r b : Bool) → c ≡ column n → n ≡ value bs → r ≡ starts_with nat_eq bs c → r ≡ b → starts (column (value bs)) bs ≡ b
first_is bs c n r b p q t u = let e = starts_is c bs in cc

pub column_there : (bs : List ℕ) → starts (column (value bs)) bs ≡ true → 6 ≤ length bs
column_there bs t = let l = starts_length (column (value bs)) bs t in omega (arith, length_column (value bs))

-- `&bytes[n..]`
pub rest_is : (n : ℕ) (bs : List ℕ) → take (length bs - n) (drop n bs) ≡ drop n bs
rest_is n bs = take_all _ (drop n bs) (omega (arith, length-drop n bs))

pub rest_length : (n : ℕ) (bs : List ℕ) → length (take (length bs - n) (drop n bs)) ≡ length bs - n
rest_length n bs = ap length (rest_is n bs) ∙ length-drop n bs

pub shorter : (n : ℕ) (bs : List ℕ) {m : ℕ} → length bs ≤ m → length (take (length bs - n) (drop n bs)) ≤ m
shorter n bs h = rw (rest_is n bs) (omega (arith, length-drop n bs))

module _ (k i : ℕ) (bs : List ℕ) where
  cols_step : i < k → line_laid (k - i) bs ≡ (starts (column (value bs)) bs && line_laid (k - (i + 1)) (drop 6 bs))
  cols_step h = let e : k - i ≡ suc (k - (i + 1)) = omega arith in rw e (line_step (k - (i + 1)) bs)

  pub cols_on : i < k → starts (column (value bs)) bs ≡ true → line_laid (k - (i + 1)) (take (length bs - 6) (drop 6 bs)) ≡ line_laid (k - i) bs
  cols_on h t = ap (line_laid (k - (i + 1))) (rest_is 6 bs) ∙ sym (cols_step h ∙ ap (λ (b : Bool). b && line_laid (k - (i + 1)) (drop 6 bs)) t)

  pub cols_off : i < k → starts (column (value bs)) bs ≡ false → false ≡ line_laid (k - i) bs
  cols_off h t = sym (cols_step h ∙ ap (λ (b : Bool). b && line_laid (k - (i + 1)) (drop 6 bs)) t)

  pub cols_end : k ≤ i → starts (10 ∷ []) bs ≡ line_laid (k - i) bs
  unfolding line numbers
  cols_end h = let e : k - i ≡ 0 = omega arith in rw e

-- ---- the lines of a block, one by one

module _ (n k i : ℕ) (bs : List ℕ) where
  rows_step : i < n → laid (n - i) k bs ≡ (line_laid k bs && laid (n - (i + 1)) k (drop (6 * k + 1) bs))
  rows_step h = let e : n - i ≡ suc (n - (i + 1)) = omega arith in rw e (laid_step (n - (i + 1)) k bs)

  pub rows_on : i < n → line_laid k bs ≡ true → laid (n - (i + 1)) k (take (length bs - (6 * k + 1)) (drop (6 * k + 1) bs)) ≡ laid (n - i) k bs
  rows_on h t = ap (laid (n - (i + 1)) k) (rest_is (6 * k + 1) bs) ∙ sym (rows_step h ∙ ap (λ (b : Bool). b && laid (n - (i + 1)) k (drop (6 * k + 1) bs)) t)

  pub rows_off : i < n → line_laid k bs ≡ false → false ≡ laid (n - i) k bs
  rows_off h t = sym (rows_step h ∙ ap (λ (b : Bool). b && laid (n - (i + 1)) k (drop (6 * k + 1) bs)) t)

  pub rows_end : n ≤ i → true ≡ laid (n - i) k bs
  unfolding lines rows starts
  rows_end h = let e : n - i ≡ 0 = omega arith in rw e

pub line_room : (k : ℕ) (bs : List ℕ) (r : Bool) → r ≡ line_laid k bs → r ≡ true → 6 * k + 1 ≤ length bs
line_room k bs r e t = let l = starts_length (line (numbers k bs)) bs (sym e ∙ t) in omega (arith, length_row k bs)

-- lines that are as laid out are there
pub laid_room : (n k : ℕ) (bs : List ℕ) → laid n k bs ≡ true → n * (6 * k + 1) ≤ length bs
laid_room n k bs t = let l = starts_length (lines (rows n k bs)) bs t in omega (arith, length_rows n k bs)
