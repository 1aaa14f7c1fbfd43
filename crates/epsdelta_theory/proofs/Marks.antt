-- The marks: entry (s, t) is marked by the lower and the higher of the two states, so the marks are symmetric.
use mathlib.Core.Path.{◌≡◌, refl, sym, ap, ◌∙◌}
use Prim.Native.Nat.{ℕ, zero, suc, ◌<◌, ◌+◌, ◌*◌, ◌/◌, ◌%◌, min, max}
use mathlib.Core.Bool.{Bool, true, false}
use native.Mathlib.Omega.{arith}
use native.Mathlib.Nat.{not-suc-le-zero, le_of_suc-le-suc}
use lib.Dec.{eqb}
use lib.ListN.{length, get_or}
use borrow.Author.Tests.{eqb-true, eq-eqb}
use Rattle.numbers.proofs.Bools.{and_t}
use Rattle.epsdelta_theory.specs.Relation.{holds}
use Rattle.epsdelta_theory.specs.Sweeps.{Task, marked, marks_from, marks}
use Rattle.epsdelta_theory.specs.Claim.{Symmetric}
use Rattle.epsdelta_theory.proofs.Pairs.{entry_div, entry_mod, entry_in}

from_length : (Q : Task) (k i : ℕ) → length (marks_from Q k i) ≡ k
unfolding marks_from
from_length Q zero i = refl
from_length Q (suc k) i = ap suc (from_length Q k (suc i))

pub marks_length : (Q : Task) → length (marks Q) ≡ Q.states * Q.states
unfolding marks
marks_length Q = from_length Q (Q.states * Q.states) 0

abbrev at : Task → ℕ → Bool
at Q i = marked Q (min (i / Q.states) (i % Q.states)) (max (i / Q.states) (i % Q.states))

from_at : (Q : Task) (k i j : ℕ) → j < k → get_or (marks_from Q k i) j false ≡ at Q (i + j)
unfolding marks_from
from_at Q zero i j h = absurd (not-suc-le-zero h)
from_at Q (suc k) i zero h = ap (at Q) (omega arith)
from_at Q (suc k) i (suc j) h = from_at Q k (suc i) j (le_of_suc-le-suc h) ∙ ap (at Q) (omega arith)

pub marks_entry : (Q : Task) (i : ℕ) → i < Q.states * Q.states → get_or (marks Q) i false ≡ marked Q (min (i / Q.states) (i % Q.states)) (max (i / Q.states) (i % Q.states))
unfolding marks
marks_entry Q i h = from_at Q (Q.states * Q.states) 0 i h ∙ ap (at Q) (omega arith)

pub marks_at : (Q : Task) (s t : ℕ) → s < Q.states → t < Q.states → holds Q.states (marks Q) s t ≡ marked Q (min s t) (max s t)
unfolding marks holds
marks_at Q s t h k =
    let n = Q.states in
    from_at Q (n * n) 0 (s * n + t) (entry_in n s t h k)
    ∙ ap (at Q) (omega arith)
    ∙ ap (λ (x : ℕ). marked Q (min x ((s * n + t) % n)) (max x ((s * n + t) % n))) (entry_div n s t k)
    ∙ ap (λ (x : ℕ). marked Q (min s x) (max s x)) (entry_mod n s t k)

module _ (Q : Task) where
  pub marks_below : (s t : ℕ) → s < t → t < Q.states → holds Q.states (marks Q) s t ≡ marked Q s t
  marks_below s t l h =
      let a : min s t ≡ s = omega arith in
      let b : max s t ≡ t = omega arith in
      marks_at Q s t (omega arith) h ∙ ap (λ (x : ℕ). marked Q x (max s t)) a ∙ ap (λ (x : ℕ). marked Q s x) b

  pub marks_symmetric : Symmetric Q.states (marks Q)
  marks_symmetric s t h k =
      let a : min s t ≡ min t s = omega arith in
      let b : max s t ≡ max t s = omega arith in
      marks_at Q s t h k ∙ ap (λ (x : ℕ). marked Q x (max s t)) a ∙ ap (λ (x : ℕ). marked Q (min t s) x) b ∙ sym (marks_at Q t s k h)

  pub marked_known : (s t : ℕ) → marked Q s t ≡ true → (Q.class s ≡ Q.class t) × (Q.rates_pass s t ≡ true)
  unfolding marked
  marked_known s t h = let a = and_t (eqb (Q.class s) (Q.class t)) (Q.rates_pass s t) h in (eqb-true _ _ a.0, a.1)

  pub marked_of : (s t : ℕ) → Q.class s ≡ Q.class t → Q.rates_pass s t ≡ true → marked Q s t ≡ true
  unfolding marked
  marked_of s t c r = rw (eq-eqb (Q.class s) (Q.class t) c, r)

  -- a state whose rate passes with itself is marked with itself
  pub marks_self : (s : ℕ) → s < Q.states → Q.rates_pass s s ≡ true → holds Q.states (marks Q) s s ≡ true
  marks_self s h r =
      let a : min s s ≡ s = omega arith in
      let b : max s s ≡ s = omega arith in
      marks_at Q s s h h ∙ ap (λ (x : ℕ). marked Q x (max s s)) a ∙ ap (λ (x : ℕ). marked Q s x) b ∙ marked_of s s refl r
