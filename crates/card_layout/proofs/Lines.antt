-- Laws of the layout: lengths, what is laid out reads back, what reads as laid out is the layout of its numbers.
use mathlib.Core.Path.{◌≡◌, refl, sym, ap, ◌∙◌}
use mathlib.Core.Bool.{Bool, true, false, ◌&&◌}
use mathlib.Core.List.{List, [], ◌∷◌, ◌++◌, append_assoc}
use Prim.Native.Nat.{ℕ, zero, suc, ◌+◌, ◌*◌, ◌-◌, ◌/◌, ◌%◌, ◌≤◌, ◌<◌}
use native.Mathlib.Omega.{arith}
use native.Mathlib.Nat.{div-eq_of_lt, div-div-eq-div-mul, suc-mul}
use lib.Dec.{eqb, ltb}
use lib.ListN.{length, take, drop, length-append}
use lib.Seq.{drop_at, get_or-take}
use borrow.Author.Tests.{ltb-true, eqb-true, eq-eqb}
use Rattle.numbers.proofs.Bools.{and_t}
use Rattle.numbers.proofs.Parts.{drop_take}
use Rattle.card_layout.specs.Layout.{place, column, line, lines, digit, value, numbers, rows, starts, laid}
use Rattle.card_layout.specs.Card.{AllFit}

-- ---- tests

and_and : (a b c : Bool) → (a && (b && c)) ≡ ((a && b) && c)
and_and true b c = refl
and_and false b c = refl

-- ---- lengths

pub length_column : (n : ℕ) → length (column n) ≡ 6
unfolding column
length_column n = refl

pub length_line : (ns : List ℕ) → length (line ns) ≡ 6 * length ns + 1
unfolding line
length_line [] = refl
length_line (n ∷ ns) = let e = length_line ns in let f = length_column n in simp length-append (omega arith)

pub length_numbers : (k : ℕ) (bs : List ℕ) → length (numbers k bs) ≡ k
unfolding numbers
length_numbers zero bs = refl
length_numbers (suc k) bs = ap suc (length_numbers k (drop 6 bs))

-- a line of k columns is 6 * k + 1 bytes
pub length_row : (k : ℕ) (bs : List ℕ) → length (line (numbers k bs)) ≡ 6 * k + 1
length_row k bs = length_line (numbers k bs) ∙ ap (λ (x : ℕ). 6 * x + 1) (length_numbers k bs)

pub length_rows : (n k : ℕ) (bs : List ℕ) → length (lines (rows n k bs)) ≡ n * (6 * k + 1)
unfolding lines rows
length_rows zero k bs = sym (native.Mathlib.Nat.zero-mul (6 * k + 1))
length_rows (suc n) k bs =
    let e = length_row k bs in
    let r = length_rows n k (drop (6 * k + 1) bs) in
    let m = suc-mul n (6 * k + 1) in
    simp length-append (omega arith)

-- ---- a column reads back

place_digit : (p n : ℕ) → digit (place p n) ≡ n / p % 10
unfolding place digit
place_digit p n = pick (ltb n p) refl
  where
    pick : (b : Bool) → ltb n p ≡ b → digit (place p n) ≡ n / p % 10
    pick true e = let h : n < p = ltb-true n p e in rw (e, div-eq_of_lt h)
    pick false e = rw e (omega arith)

-- six digits, each with what stands above it
add_up : (n q r s t u a b c d e f : ℕ) → a ≡ u → 10 * u + b ≡ t → 10 * t + c ≡ s → 10 * s + d ≡ r → 10 * r + e ≡ q → 10 * q + f ≡ n
    → 100000 * a + 10000 * b + 1000 * c + 100 * d + 10 * e + f ≡ n
add_up n q r s t u a b c d e f h₁ h₂ h₃ h₄ h₅ h₆ = omega arith

shift : (n p q : ℕ) → p * 10 ≡ q → 10 * (n / q) + n / p % 10 ≡ n / p
shift n p q e = ap (λ (x : ℕ). 10 * (n / x) + n / p % 10) (sym e) ∙ ap (λ (x : ℕ). 10 * x + n / p % 10) (sym (div-div-eq-div-mul n p 10)) ∙ omega arith

digit_last : (n : ℕ) → digit (48 + n % 10) ≡ n % 10
unfolding digit
digit_last n = omega arith

pub value_column : (n : ℕ) (r : List ℕ) → n < 1000000 → value (column n ++ r) ≡ n
unfolding value column
value_column n r h =
    rw (place_digit 100000 n, place_digit 10000 n, place_digit 1000 n, place_digit 100 n, place_digit 10 n, digit_last n)
    (add_up n (n / 10) (n / 100) (n / 1000) (n / 10000) (n / 100000) _ _ _ _ _ _
    (omega arith) (shift n 10000 100000 refl) (shift n 1000 10000 refl) (shift n 100 1000 refl) (shift n 10 100 refl) (omega arith))

-- no column holds more than 999,999
value_low : (n : ℕ) (r : List ℕ) → value (column n ++ r) < 1000000
unfolding value column
value_low n r =
    rw (place_digit 100000 n, place_digit 10000 n, place_digit 1000 n, place_digit 100 n, place_digit 10 n, digit_last n)
    (low _ _ _ _ _ _ (omega arith) (omega arith) (omega arith) (omega arith) (omega arith) (omega arith))
  where
    low : (a b c d e f : ℕ) → a < 10 → b < 10 → c < 10 → d < 10 → e < 10 → f < 10 → 100000 * a + 10000 * b + 1000 * c + 100 * d + 10 * e + f < 1000000
    low a b c d e f h₁ h₂ h₃ h₄ h₅ h₆ = omega arith

-- ---- what the bytes begin with

pub starts_append : (xs ys bs : List ℕ) → starts (xs ++ ys) bs ≡ (starts xs bs && starts ys (drop (length xs) bs))
unfolding starts
starts_append [] ys bs = refl
starts_append (x ∷ xs) ys [] = refl
starts_append (x ∷ xs) ys (b ∷ bs) = rw (starts_append xs ys bs) (and_and (eqb b x) (starts xs bs) (starts ys (drop (length xs) bs)))

pub starts_self : (xs r : List ℕ) → starts xs (xs ++ r) ≡ true
unfolding starts
starts_self [] r = refl
starts_self (x ∷ xs) r = rw (eq-eqb x x refl, starts_self xs r)

pub starts_split : (xs bs : List ℕ) → starts xs bs ≡ true → bs ≡ xs ++ drop (length xs) bs
unfolding starts
starts_split [] bs e = refl
starts_split (x ∷ xs) [] e = absurd (let z : ◌≡◌ {A = ℕ} 0 1 = cc in omega arith)
starts_split (x ∷ xs) (b ∷ bs) e =
    let p : b ≡ x = eqb-true b x (and_t (eqb b x) (starts xs bs) e).0 in
    let q = starts_split xs bs (and_t (eqb b x) (starts xs bs) e).1 in
    cc

pub starts_length : (xs bs : List ℕ) → starts xs bs ≡ true → length xs ≤ length bs
starts_length xs bs e = omega (arith, simp length-append at (ap length (starts_split xs bs e)))

pub starts_take : (m : ℕ) (xs bs : List ℕ) → length xs ≤ m → starts xs (take m bs) ≡ starts xs bs
unfolding starts
starts_take m [] bs h = refl
starts_take zero (x ∷ xs) bs h = absurd (omega arith)
starts_take (suc m) (x ∷ xs) [] h = refl
starts_take (suc m) (x ∷ xs) (b ∷ bs) h = rw (starts_take m xs bs (omega arith))

-- ---- a line and a block of lines as laid out

pub line_step : (k : ℕ) (bs : List ℕ)
    → starts (line (numbers (suc k) bs)) bs ≡ (starts (column (value bs)) bs && starts (line (numbers k (drop 6 bs))) (drop 6 bs))
unfolding line numbers
line_step k bs =
    starts_append (column (value bs)) (line (numbers k (drop 6 bs))) bs
    ∙ ap (λ (n : ℕ). starts (column (value bs)) bs && starts (line (numbers k (drop 6 bs))) (drop n bs)) (length_column (value bs))

pub laid_step : (n k : ℕ) (bs : List ℕ)
    → laid (suc n) k bs ≡ (starts (line (numbers k bs)) bs && laid n k (drop (6 * k + 1) bs))
unfolding lines rows
laid_step n k bs =
    starts_append (line (numbers k bs)) (lines (rows n k (drop (6 * k + 1) bs))) bs
    ∙ ap (λ (m : ℕ). starts (line (numbers k bs)) bs && starts (lines (rows n k (drop (6 * k + 1) bs))) (drop m bs)) (length_row k bs)

-- as laid out: the lines of their numbers, and what follows
pub laid_split : (n k : ℕ) (bs : List ℕ) → laid n k bs ≡ true → bs ≡ lines (rows n k bs) ++ drop (n * (6 * k + 1)) bs
laid_split n k bs e =
    starts_split (lines (rows n k bs)) bs e ∙ ap (λ (m : ℕ). lines (rows n k bs) ++ drop m bs) (length_rows n k bs)

-- ---- numbers that are read fit a column

pub column_fits : (bs : List ℕ) → starts (column (value bs)) bs ≡ true → value bs < 1000000
column_fits bs e = rw (ap value (starts_split (column (value bs)) bs e)) (value_low (value bs) (drop (length (column (value bs))) bs))

pub numbers_fit : (k : ℕ) (bs : List ℕ) → starts (line (numbers k bs)) bs ≡ true → AllFit (numbers k bs)
unfolding numbers
numbers_fit zero bs e = tt
numbers_fit (suc k) bs e =
    let f = sym (line_step k bs) ∙ e in
    (column_fits bs (and_t _ _ f).0, numbers_fit k (drop 6 bs) (and_t (starts (column (value bs)) bs) _ f).1)

-- every row of a block
abbrev pub AllRows : ℕ → List (List ℕ) → Type 0
AllRows k [] = Unit
AllRows k (r ∷ rs) = (length r ≡ k) × AllFit r × AllRows k rs

pub rows_fit_lem : (n k : ℕ) (bs : List ℕ) → laid n k bs ≡ true → AllRows k (rows n k bs)
unfolding rows
rows_fit_lem zero k bs e = tt
rows_fit_lem (suc n) k bs e =
    let f = sym (laid_step n k bs) ∙ e in
    (length_numbers k bs, numbers_fit k bs (and_t _ _ f).0, rows_fit_lem n k (drop (6 * k + 1) bs) (and_t (starts (line (numbers k bs)) bs) _ f).1)

-- ---- what is laid out reads back

pub numbers_line : (ns r : List ℕ) → AllFit ns → numbers (length ns) (line ns ++ r) ≡ ns
unfolding numbers line
numbers_line [] r f = refl
numbers_line (n ∷ ns) r f =
    rw (append_assoc (column n) (line ns) r, value_column n (line ns ++ r) f.0, drop_at (column n) (line ns ++ r) 6 (length_column n), numbers_line ns r f.1)

pub rows_lines : (k : ℕ) (rs : List (List ℕ)) (r : List ℕ) → AllRows k rs → rows (length rs) k (lines rs ++ r) ≡ rs
unfolding rows lines
rows_lines k [] r f = refl
rows_lines k (s ∷ rs) r f =
    let l : length (line s) ≡ 6 * k + 1 = length_line s ∙ ap (λ (x : ℕ). 6 * x + 1) f.0 in
    let n : numbers k (line s ++ (lines rs ++ r)) ≡ s = ap (λ (x : ℕ). numbers x (line s ++ (lines rs ++ r))) (sym f.0) ∙ numbers_line s (lines rs ++ r) f.1 in
    rw (append_assoc (line s) (lines rs) r, n, drop_at (line s) (lines rs ++ r) (6 * k + 1) l, rows_lines k rs r f.2)

pub laid_lines : (k : ℕ) (rs : List (List ℕ)) (r : List ℕ) → AllRows k rs → laid (length rs) k (lines rs ++ r) ≡ true
laid_lines k rs r f = ap (λ (x : List (List ℕ)). starts (lines x) (lines rs ++ r)) (rows_lines k rs r f) ∙ starts_self (lines rs) r

pub length_lines : (k : ℕ) (rs : List (List ℕ)) → AllRows k rs → length (lines rs) ≡ length rs * (6 * k + 1)
unfolding lines
length_lines k [] f = sym (native.Mathlib.Nat.zero-mul (6 * k + 1))
length_lines k (s ∷ rs) f =
    let l : length (line s) ≡ 6 * k + 1 = length_line s ∙ ap (λ (x : ℕ). 6 * x + 1) f.0 in
    let r = length_lines k rs f.2 in
    let m = suc-mul (length rs) (6 * k + 1) in
    simp length-append (omega arith)

-- ---- the numbers in the first m bytes

pub value_take : (m : ℕ) (bs : List ℕ) → 6 ≤ m → value (take m bs) ≡ value bs
unfolding value
value_take m bs h =
    rw (
      get_or-take m bs 0 0 (omega arith),
      get_or-take m bs 1 0 (omega arith),
      get_or-take m bs 2 0 (omega arith),
      get_or-take m bs 3 0 (omega arith),
      get_or-take m bs 4 0 (omega arith),
      get_or-take m bs 5 0 (omega arith),
    )

-- the part of the first m bytes from i on
pub drop_take_le : (i m : ℕ) (bs : List ℕ) → i ≤ m → drop i (take m bs) ≡ take (m - i) (drop i bs)
drop_take_le i m bs h = let e : m ≡ i + (m - i) = omega arith in ap (λ (x : ℕ). drop i (take x bs)) e ∙ drop_take i (m - i) bs

pub numbers_take : (k m : ℕ) (bs : List ℕ) → 6 * k ≤ m → numbers k (take m bs) ≡ numbers k bs
unfolding numbers
numbers_take zero m bs h = refl
numbers_take (suc k) m bs h =
    rw (value_take m bs (omega arith), drop_take_le 6 m bs (omega arith), numbers_take k (m - 6) (drop 6 bs) (omega arith))

pub rows_take : (n k m : ℕ) (bs : List ℕ) → n * (6 * k + 1) ≤ m → rows n k (take m bs) ≡ rows n k bs
unfolding rows
rows_take zero k m bs h = refl
rows_take (suc n) k m bs h =
    let e = suc-mul n (6 * k + 1) in
    let w : 6 * k + 1 ≤ m = omega arith in
    rw (numbers_take k m bs (omega arith), drop_take_le (6 * k + 1) m bs w, rows_take n k (m - (6 * k + 1)) (drop (6 * k + 1) bs) (omega arith))

-- whether lines are as laid out depends on no byte after them
pub laid_take : (n k m : ℕ) (bs : List ℕ) → n * (6 * k + 1) ≤ m → laid n k (take m bs) ≡ laid n k bs
laid_take n k m bs h =
    ap (λ (x : List (List ℕ)). starts (lines x) (take m bs)) (rows_take n k m bs h)
    ∙ starts_take m (lines (rows n k bs)) bs (let l = length_rows n k bs in omega arith)
