-- The row of a state is the part of the columns that its offsets bound.
use Rattle.std.specs.Prelude.{slice_range}
use mathlib.Core.Path.{◌≡◌, sym, ap, ap₂, ◌∙◌}
use Prim.Native.Nat.{ℕ, ◌≤◌, ◌<◌, ◌+◌, ◌-◌}
use mathlib.Core.Bool.{true}
use mathlib.Core.List.{List}
use native.Mathlib.Omega.{arith}
use lib.ListN.{length, take, drop}
use Rattle.std.proofs.lemmas.List.{drop-take}
use lib.Seq.{slice}
use lib.Ieee.{Float}
use borrow.Author.Tests.{lt-ltb, le-leb}
use Rattle.chain_theory.specs.Columns.{ChainColumns, begins, reads_row, row_targets, row_rates}

part_is : {A : Type 0} (a b : ℕ) (l : List A) → a ≤ b → take (b - a) (drop a l) ≡ slice a b l
part_is a b l h = let e : a + (b - a) ≡ b = omega arith in sym (drop-take a (b - a) l) ∙ ap (λ (n : ℕ). slice a n l) e

-- its parts from f to t
pub row_is : (C : ChainColumns) (x f t : ℕ) (ts : List ℕ) (ps : List Float) → x + 1 < length C.offsets → f ≡ begins C x → t ≡ begins C (x + 1) → f ≤ t → t ≤ length C.targets → t ≤ length C.probabilities
    → ts ≡ slice_range C.targets f t → ps ≡ slice_range C.probabilities f t → (reads_row C x ≡ true) × (ts ≡ row_targets C x) × (ps ≡ row_rates C x)
row_is C x f t ts ps h ef et k l m es ep =
    let a : begins C x ≤ begins C (x + 1) = rw (sym ef, sym et) k in
    let b : begins C (x + 1) ≤ length C.targets = rw (sym et) l in
    let d : begins C (x + 1) ≤ length C.probabilities = rw (sym et) m in (
      rw (lt-ltb (x + 1) (length C.offsets) h, le-leb (begins C x) (begins C (x + 1)) a, le-leb (begins C (x + 1)) (length C.targets) b, le-leb (begins C (x + 1)) (length C.probabilities) d),
      es ∙ ap₂ (slice_range C.targets) ef et ∙ part_is (begins C x) (begins C (x + 1)) C.targets a,
      ep ∙ ap₂ (slice_range C.probabilities) ef et ∙ part_is (begins C x) (begins C (x + 1)) C.probabilities a,
    )
