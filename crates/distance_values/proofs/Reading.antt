-- What the check of the store decides: couplings that pass it can be read.
use mathlib.Core.Path.{◌≡◌, sym, subst, ◌∙◌}
use Prim.Native.Nat.{ℕ, ◌+◌, ◌-◌, ◌<◌}
use mathlib.Core.Bool.{Bool, true, false}
use mathlib.Core.List.{List}
use native.Mathlib.Omega.{arith}
use lib.Dec.{leb, ltb}
use lib.ListN.{length, get_or}
use lib.Seq.{slice, length-slice}
use lib.Ieee.{Float}
use borrow.Author.Tests.{leb-true, ltb-true}
use Rattle.numbers.specs.Lists.{every}
use Rattle.numbers.proofs.Bools.{and_t}
use Rattle.numbers.proofs.Alls.{all_at, every_at, every_next, every_not}
use Rattle.distance_theory.proofs.Held.{Lies, Holds, slice_at}
use Rattle.distance_words.proofs.Readable.{below, lies, held}

module _ (S L P : List ℕ) (M : List Float) (n : ℕ) where
  lies_known : (k : ℕ) → lies S L P M n k ≡ true → Lies P M n (get_or S k 0) (get_or S k 0 + get_or L k 0)
  lies_known k e =
      let a = get_or S k 0 in
      let b = a + get_or L k 0 in
      let (x, r) = and_t (leb b (length P)) _ e in
      let (y, q) = and_t (leb b (length M)) _ r in
      let p = leb-true b (length P) x in
      let z = length-slice a b P p in
      record {
        ordered = omega arith;
        in_places = p;
        in_masses = leb-true b (length M) y;
        leads = λ i h l. ltb-true (get_or P i 0) n (subst (λ (j : ℕ). ltb j n ≡ true) (slice_at a b i P 0 h l) (all_at (below n) (slice a b P) 0 q (i - a) (omega arith)));
      }

  -- what passes the check can be read
  pub held_known : held S L P M n ≡ true → Holds S L P M n
  held_known e =
      let (x, r) = and_t (leb n (length S)) _ e in
      let (y, q) = and_t (leb n (length L)) _ r in
      record {
        in_starts = leb-true n (length S) x;
        in_lengths = leb-true n (length L) y;
        each = λ k h. lies_known k (every_at (lies S L P M n) n q k h);
      }

  -- a turn of the check: a coupling that cannot be read decides, and one that can leaves it to the rest
  module _ (k : ℕ) {r : Bool} (e : r ≡ lies S L P M n k) where
    pub stops : k < n → r ≡ false → every (lies S L P M n) n ≡ false
    stops h t = every_not (lies S L P M n) n k h (sym e ∙ t)

    pub goes : every (lies S L P M n) k ≡ true → r ≡ true → every (lies S L P M n) (k + 1) ≡ true
    goes h t = every_next (lies S L P M n) k h (sym e ∙ t)
