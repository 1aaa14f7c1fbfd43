-- Lists stored one after the other, and the steps of the code that writes a line.
use mathlib.Core.Path.{◌≡◌, sym, ap, ◌∙◌}
use mathlib.Core.List.{List, [], ◌∷◌, ◌++◌, append_assoc, append-nil}
use Prim.Native.Nat.{ℕ, suc, ◌+◌, ◌*◌, ◌-◌, ◌≤◌, ◌<◌}
use native.Mathlib.Omega.{arith}
use native.Mathlib.Numerals.{add-one}
use lib.ListN.{length, get_or, take, drop, set, drop_of_length-le, length-drop}
use lib.Seq.{sets, sets-eq, length-sets, drop-cons, drop-drop}
use borrow.Rule.Slice.PartMut.{put_mid, Post-is}
use Rattle.card_layout.specs.Layout.{column, line, lines}
use Rattle.card_layout.proofs.Lines.{length_column}
use Rattle.card_layout.proofs.Steps.{rest_is}

pub sets_append : (l : List ℕ) (i : ℕ) (xs ys : List ℕ) → sets l i (xs ++ ys) ≡ sets (sets l i xs) (i + length xs) ys
sets_append l i [] ys = let e : i ≡ i + 0 = omega arith in ap (λ (x : ℕ). sets l x ys) e
sets_append l i (x ∷ xs) ys =
    let e : suc i + length xs ≡ i + suc (length xs) = omega arith in
    sets_append (set l i x) (suc i) xs ys ∙ ap (λ (n : ℕ). sets (sets (set l i x) (suc i) xs) n ys) e

-- a part that is written over
pub put_is : (a e : ℕ) (out c : List ℕ) → a + length c ≡ e → e ≤ length out → put_mid a (e - a) out c ≡ sets out a c
put_is a e out c p h =
    ap (λ (l : List ℕ). take a out ++ (c ++ l)) (Post-is a e out (omega arith) ∙ ap (λ (n : ℕ). drop n out) (sym p)) ∙ sym (sets-eq c out a (omega arith) ∙ append_assoc (take a out) c (drop (a + length c) out))

-- a part up to the end, of which the first entries are written over
pub put_from : (i : ℕ) (l xs part : List ℕ) → i + length xs ≤ length l → part ≡ sets (take (length l - i) (drop i l)) 0 xs → put_mid i (length l - i) l part ≡ sets l i xs
put_from i l xs part h e =
    let r : take (length l - i) (drop i l) ≡ drop i l = rest_is i l in
    let m = length-drop i l in
    let n : length part ≡ length l - i = ap length e ∙ length-sets _ 0 xs ∙ ap length r ∙ m in
    let o : 0 + length xs ≡ length xs = omega arith in
    let d : part ≡ xs ++ drop (i + length xs) l =
    e ∙ ap (λ (x : List ℕ). sets x 0 xs) r ∙ sets-eq xs (drop i l) 0 (omega arith) ∙ ap (λ (x : ℕ). xs ++ drop x (drop i l)) o ∙ ap (λ (x : List ℕ). xs ++ x) (drop-drop (length xs) i l) in
    put_is i (length l) l part (omega arith) (omega arith)
    ∙ sets-eq part l i (omega arith)
    ∙ ap (λ (x : List ℕ). (take i l ++ part) ++ x) (drop_of_length-le l (omega arith))
    ∙ append-nil (take i l ++ part)
    ∙ ap (λ (x : List ℕ). take i l ++ x) d
    ∙ sym (sets-eq xs l i h ∙ append_assoc (take i l) xs (drop (i + length xs) l))

-- the columns of a line, one by one
pub line_on : (out row c : List ℕ) (i : ℕ) → i < length row → c ≡ column (get_or row i 0) → 6 * i + 6 ≤ length out
    → sets (put_mid (6 * i) (6 * i + 6 - 6 * i) out c) (6 * (i + 1)) (line (drop (i + 1) row)) ≡ sets out (6 * i) (line (drop i row))
unfolding line
line_on out row c i h f g =
    let x = get_or row i 0 in
    let p = 6 * i in
    let o : 6 * (i + 1) ≡ 6 * i + 6 = omega arith in
    let n : length c ≡ 6 = ap length f ∙ length_column x in
    let e : line (drop i row) ≡ column x ++ line (drop (i + 1) row) =
    ap line (drop-cons row i 0 h) ∙ ap (λ (n : ℕ). column x ++ line (drop n row)) (sym (add-one i)) in
    ap (λ (n : ℕ). sets (put_mid p (p + 6 - p) out c) n (line (drop (i + 1) row))) o
    ∙ ap (λ (l : List ℕ). sets l (p + 6) (line (drop (i + 1) row))) (put_is p (p + 6) out c (omega arith) g ∙ ap (sets out p) f)
    ∙ sym (ap (sets out p) e ∙ sets_append out p (column x) (line (drop (i + 1) row))
    ∙ ap (λ (n : ℕ). sets (sets out p (column x)) (p + n) (line (drop (i + 1) row))) (length_column x))

pub line_end : (out row : List ℕ) (i : ℕ) → i ≡ length row → set out (6 * length row) 10 ≡ sets out (6 * i) (line (drop i row))
unfolding line
line_end out row i e = let h : length row ≤ length row = omega arith in rw (e, drop_of_length-le row h)

-- rows of two numbers written to the first bytes, at most `most` of them: how many, and the store
pub record PairsPut (pairs : List (List ℕ)) (most : ℕ) (out : List ℕ) (p : ℕ) (out' : List ℕ) : Type 0 where
  pub size : p ≡ 13 * length pairs
  pub far : p ≤ most
  pub leaves : out' ≡ sets out 0 (lines pairs)
