-- What the tests of `sweeps` and `visits` decide, one after the other.
use mathlib.Core.Path.{◌≡◌, sym, ap, ◌∙◌}
use Prim.Native.Nat.{ℕ, ◌≤◌, ◌<◌}
use mathlib.Core.Bool.{Bool, true, false}
use mathlib.Core.List.{List, ◌++◌, append-nil}
use native.Mathlib.Omega.{arith}
use lib.ListN.{length, take, drop_of_length-le}
use lib.Seq.{length-take-le, take_all}
use lib.Ieee.{Float}
use borrow.Author.Tests.{le-leb, lt-leb}
use Rattle.numbers.specs.Real.{nought}
use Rattle.numbers.specs.Lists.{over}
use Rattle.distance_theory.specs.Pairs.{most}
use Rattle.distance_theory.specs.Rounds.{sweeps}
use Rattle.distance_theory.specs.Contributions.{visits, depart}
use Rattle.distance_theory.proofs.Lengths.{sweeps_length, visits_wide, depart_wide}
use Rattle.distance_theory.proofs.Held.{policy_in, Holds}
use Rattle.distance_theory.proofs.ValueRows.{Rested}
use Rattle.distance_words.proofs.Readable.{held}
use Rattle.distance_words.proofs.Valuing.{priced, valued, evaluated, occupied, visited}
use Rattle.distance_values.proofs.Reading.{held_known}

-- a whole list over another
over_all : (u v : List Float) → length u ≡ length v → over u v ≡ u
over_all u v e = ap (λ (l : List Float). u ++ l) (drop_of_length-le v (omega arith)) ∙ append-nil u

module _ (limit : ℕ) (S L P : List ℕ) (M c : List Float) (γ tol : Float) (v : List Float) (n : ℕ) where
  pub costs_short : length c < n → valued 18 v ≡ evaluated limit S L P M c γ tol v n
  costs_short h = rw (lt-leb n (length c) h)

  module _ (p : n ≤ length c) (q : length v ≡ n) {r : Bool} (e : r ≡ held S L P M n) where
    pub unread : r ≡ false → valued 18 v ≡ evaluated limit S L P M c γ tol v n
    unread t = let h = sym e ∙ t in rw (le-leb n (length c) p, le-leb n (length v) (omega arith), h)

    module _ (t : r ≡ true) where
      pub readable : Holds S L P M (length v) × (length v ≤ length (take n c))
      readable = (rw q (held_known S L P M n (sym e ∙ t)), rw (q, length-take-le n c p) (omega arith))

      pub evaluates : {u : List Float} → u ≡ sweeps (priced γ (take n c)) (policy_in S L P M (length v)) tol limit v → valued 0 u ≡ evaluated limit S L P M c γ tol v n
      evaluates {u} x =
          let h = sym e ∙ t in
          let f : u ≡ sweeps (priced γ (take n c)) (policy_in S L P M n) tol limit v = rw q at x in
          let w = sweeps (priced γ (take n c)) (policy_in S L P M n) tol limit v in
          let m : length w ≡ length v = sweeps_length (priced γ (take n c)) (policy_in S L P M n) tol limit v in
          rw (le-leb n (length c) p, le-leb n (length v) (omega arith), h, f, take_all n v (omega arith)) (ap (valued 0) (sym (over_all w v m)))

module _ (limit : ℕ) (S L P : List ℕ) (M : List Float) (γ : Float) (l : List Float) (n : ℕ) where
  pub pairs_many : most < n → occupied 18 nought l ≡ visited limit S L P M γ l n
  pairs_many h = rw (lt-leb n most h)

  module _ (p : n ≤ most) (q : length l ≡ n) {r : Bool} (e : r ≡ held S L P M n) where
    pub unreadable : r ≡ false → occupied 18 nought l ≡ visited limit S L P M γ l n
    unreadable t = let h = sym e ∙ t in rw (le-leb n most p, le-leb n (length l) (omega arith), h)

    module _ (t : r ≡ true) where
      pub visitable : Holds S L P M (length l) × (length l ≤ most)
      visitable = (rw q (held_known S L P M n (sym e ∙ t)), rw q p)

      pub occupies : {m : Float} {s : List Float} → Rested (visits γ (policy_in S L P M (length l)) limit (depart γ (length l))) m s → occupied 0 m s ≡ visited limit S L P M γ l n
      occupies {m} {s} x =
          let h = sym e ∙ t in
          let y : Rested (visits γ (policy_in S L P M n) limit (depart γ n)) m s = rw q at x in
          let w = visits γ (policy_in S L P M n) limit (depart γ n) in
          let k : length w.spent ≡ n = (visits_wide γ (policy_in S L P M n) n limit (depart γ n) (depart_wide γ n)).spent in
          rw (le-leb n most p, le-leb n (length l) (omega arith), h, y.mass_is, y.spent_is) (ap (occupied 0 w.mass) (sym (over_all w.spent l (k ∙ sym q))))
