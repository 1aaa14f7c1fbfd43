-- A part of a list lent, from a place on, and put back.
use mathlib.Core.Path.{◌≡◌, sym, ap, ◌∙◌}
use Prim.Native.Nat.{ℕ, ◌+◌, ◌-◌, ◌≤◌}
use mathlib.Core.List.{List, [], ◌++◌, append-nil}
use native.Mathlib.Omega.{arith}
use lib.ListN.{length, take, drop, length-append, length-drop, drop_of_length-le}
use lib.Seq.{slice, take_all, length-take-le, take_at, drop_at, drop-drop, take-append-add}

module _ {A : Type 0} where
  -- from place a on
  abbrev pub part : ℕ → List A → List A
  part a l = take (length l - a) (drop a l)

  -- the list with y in its place
  abbrev pub back : ℕ → List A → List A → List A
  back a l y = take a l ++ (y ++ drop (length l - a) (drop a l))

  pub part_length : (a : ℕ) (l : List A) → length (part a l) ≡ length l - a
  part_length a l = length-take-le (length l - a) (drop a l) (let e = length-drop a l in omega arith)

  pub part_all : (a : ℕ) (l : List A) → part a l ≡ drop a l
  part_all a l = take_all (length l - a) (drop a l) (let e = length-drop a l in omega arith)

  module _ (a : ℕ) (l y : List A) (h : a ≤ length l) where
    nothing : drop (length l - a) (drop a l) ≡ []
    nothing = let e = length-drop a l in let q : length (drop a l) ≤ length l - a = omega arith in drop_of_length-le (drop a l) q

    pub back_is : back a l y ≡ take a l ++ y
    back_is = ap (λ (z : List A). take a l ++ (y ++ z)) nothing ∙ ap (λ (z : List A). take a l ++ z) (append-nil y)

    pub take_back : take a (back a l y) ≡ take a l
    take_back = take_at (take a l) (y ++ drop (length l - a) (drop a l)) a (length-take-le a l h)

    drop_back : drop a (back a l y) ≡ y
    drop_back = ap (drop a) back_is ∙ drop_at (take a l) y a (length-take-le a l h)

    module _ (e : length y ≡ length (part a l)) where
      pub back_length : length (back a l y) ≡ length l
      back_length =
          let p = part_length a l in
          let t = length-take-le a l h in
          ap (λ (z : List A). length z) back_is ∙ length-append (take a l) y ∙ omega arith

      pub part_back : part a (back a l y) ≡ y
      part_back = ap (take (length (back a l y) - a)) drop_back ∙ take_all (length (back a l y) - a) y (let p = part_length a l in let q = back_length in omega arith)

    -- what is kept in the part is kept in the list
    pub past_back : (m : ℕ) → drop m y ≡ drop m (part a l) → drop (a + m) (back a l y) ≡ drop (a + m) l
    past_back m e =
        let o = length-drop a l in
        sym (drop-drop m a (back a l y)) ∙ ap (drop m) drop_back ∙ e ∙ ap (drop m) (take_all (length l - a) (drop a l) (omega arith)) ∙ drop-drop m a l

    pub slice_back : (m : ℕ) → slice a (a + m) (back a l y) ≡ take m y
    slice_back m =
        let t = length-take-le a l h in
        ap (λ (z : List A). drop a (take (a + m) z)) back_is
        ∙ ap (λ (n : ℕ). drop a (take (n + m) (take a l ++ y))) (sym t)
        ∙ ap (drop a) (take-append-add (take a l) y m)
        ∙ drop_at (take a l) (take m y) a t
