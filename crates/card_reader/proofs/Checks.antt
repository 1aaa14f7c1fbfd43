-- The checks of a model, one by one, as the code makes them.
use mathlib.Core.Path.{◌≡◌, sym, ap, ◌∙◌}
use mathlib.Core.Bool.{Bool, true, false}
use mathlib.Core.List.{List}
use Prim.Native.Nat.{ℕ, ◌+◌, ◌*◌, ◌-◌, ◌≤◌, ◌<◌}
use native.Mathlib.Omega.{arith}
use lib.ListN.{length, take, drop}
use lib.Seq.{drop-drop}
use borrow.Author.Tests.{lt-ltb, le-ltb}
use Rattle.card_layout.specs.Layout.{value, laid}
use Rattle.card_layout.proofs.Steps.{rest_is}
use Rattle.card_layout.specs.Card.{states, count, class_part, transition_part, side_fault}

-- ---- what follows in the bytes, as code cuts them: `&s[n..]`

-- from n on in the bytes from m on
pub further : (n m : ℕ) (s : List ℕ) → take (length (take (length s - m) (drop m s)) - n) (drop n (take (length s - m) (drop m s))) ≡ drop (m + n) s
further n m s = rest_is n _ ∙ ap (drop n) (rest_is m s) ∙ drop-drop n m s

module _ (bs : List ℕ) (n m : ℕ) (en : n ≡ states bs) (em : m ≡ count bs) where
  abbrev pub lines : List ℕ
  lines = take (length bs - 19) (drop 19 bs)

  pub class_lines : lines ≡ class_part bs
  class_lines = rest_is 19 bs

  pub transition_lines : take (length lines - 7 * n) (drop (7 * n) lines) ≡ transition_part bs
  transition_lines = further (7 * n) 19 bs ∙ ap (λ (x : ℕ). drop (19 + 7 * x) bs) en

  pub classes_laid : {r b : Bool} → r ≡ laid n 1 lines → r ≡ b → laid (states bs) 1 (class_part bs) ≡ b
  classes_laid e t = sym (e ∙ ap (laid n 1) class_lines ∙ ap (λ (x : ℕ). laid x 1 (class_part bs)) en) ∙ t

  pub transitions_laid : {r b : Bool} → r ≡ laid m 4 (take (length lines - 7 * n) (drop (7 * n) lines)) → r ≡ b → laid (count bs) 4 (transition_part bs) ≡ b
  transitions_laid e t = sym (e ∙ ap (laid m 4) transition_lines ∙ ap (λ (x : ℕ). laid x 4 (transition_part bs)) em) ∙ t

-- the parts of the model that begins at `at` among other bytes, n states
module _ (s : List ℕ) (at n : ℕ) (en : n ≡ value (drop at s)) where
  pub class_part_lem : class_part (drop at s) ≡ drop (at + 19) s
  class_part_lem = drop-drop 19 at s

  pub transition_part_lem : transition_part (drop at s) ≡ drop (at + 19 + 7 * n) s
  transition_part_lem =
      let e : at + (19 + 7 * n) ≡ at + 19 + 7 * n = omega arith in
      ap (λ (x : ℕ). drop (19 + 7 * x) (drop at s)) (sym en) ∙ drop-drop (19 + 7 * n) at s ∙ ap (λ (x : ℕ). drop x s) e

-- ---- the checks of a model

module _ (bs : List ℕ) where
  abbrev HeadLaid : Type 0
  HeadLaid = laid 1 3 bs ≡ true

  pub head_off : laid 1 3 bs ≡ false → 1 ≡ side_fault bs 0
  unfolding side_fault
  head_off h = rw h

  pub states_over : HeadLaid → 32 < states bs → 2 ≡ side_fault bs 0
  unfolding side_fault
  states_over h g = rw (h, lt-ltb 32 (states bs) g)

  pub transitions_over : HeadLaid → states bs ≤ 32 → 200 < count bs → 2 ≡ side_fault bs 0
  unfolding side_fault
  transitions_over h a g = rw (h, le-ltb 32 (states bs) a, lt-ltb 200 (count bs) g)

  pub classes_off : HeadLaid → states bs ≤ 32 → count bs ≤ 200 → laid (states bs) 1 (class_part bs) ≡ false → 1 ≡ side_fault bs 0
  unfolding side_fault
  classes_off h a b g = rw (h, le-ltb 32 (states bs) a, le-ltb 200 (count bs) b, g)

  pub transitions_off : HeadLaid → states bs ≤ 32 → count bs ≤ 200 → laid (states bs) 1 (class_part bs) ≡ true → laid (count bs) 4 (transition_part bs) ≡ false → 1 ≡ side_fault bs 0
  unfolding side_fault
  transitions_off h a b g f = rw (h, le-ltb 32 (states bs) a, le-ltb 200 (count bs) b, g, f)

  pub side_passed : HeadLaid → states bs ≤ 32 → count bs ≤ 200 → laid (states bs) 1 (class_part bs) ≡ true → laid (count bs) 4 (transition_part bs) ≡ true → 0 ≡ side_fault bs 0
  unfolding side_fault
  side_passed h a b g f = rw (h, le-ltb 32 (states bs) a, le-ltb 200 (count bs) b, g, f)
