-- What `related` says of bytes that begin with a relation's own: what the relation says.
-- The pair's bit is one of the relation's, so it stands in its bytes, and a packed relation's bits are its entries.
use mathlib.Core.Path.{◌≡◌, ap, ◌∙◌}
use Prim.Native.Nat.{ℕ, ◌+◌, ◌*◌, ◌/◌, ◌%◌, ◌^◌, ◌≤◌, ◌<◌}
use mathlib.Core.Bool.{Bool}
use mathlib.Core.List.{List, ◌++◌}
use native.Mathlib.Omega.{arith}
use lib.Dec.{eqb}
use lib.ListN.{length, get_or-append}
use Rattle.std.specs.Prelude.{Ok}
use Rattle.numbers.specs.Refuse.{answered}
use Rattle.numbers.specs.Bits.{packed, bit_at}
use Rattle.numbers.proofs.Packed.{packed_length}
use Rattle.epsdelta_theory.specs.Relation.{related, relation_bytes}
use Rattle.epsdelta_theory.proofs.Pairs.{entry_in, packed_holds}
use Rattle.bisimilar.specs.Related.{related_in, related_outcome}
use Rattle.bisimilar.proofs.Checking.{unrefused}

-- a bit of the first bytes
bit_front : (front rest : List ℕ) (i : ℕ) → i / 8 < length front → bit_at (front ++ rest) i ≡ bit_at front i
unfolding bit_at
bit_front front rest i h = ap (λ (x : ℕ). eqb (x / 2 ^ (i % 8) % 2) 1) (get_or-append front rest 0 (i / 8) h)

module _ (left right : ℕ) (R : List Bool) (rest : List ℕ) (s t : ℕ) (all : length R ≡ (left + right) * (left + right)) (h : s < left) (k : t < right) where
  -- on a relation with other bytes after it
  pub related_packed : related_in left right (packed R ++ rest) s t ≡ related (left + right) left R s t
  unfolding related
  related_packed =
      let n = packed_length R in
      let i = entry_in (left + right) s (left + t) (omega arith) (omega arith) in
      bit_front (packed R) rest (s * (left + right) + (left + t)) (omega arith) ∙ packed_holds (left + right) R s (left + t)

  -- and the checks pass
  pub related_answer : left ≤ 2000 → right ≤ 2000 → relation_bytes (left + right) ≤ length (packed R ++ rest) → left + right ≤ 2000
      → related_outcome left right (packed R ++ rest) s t ≡ Ok (related (left + right) left R s t)
  unfolding related_outcome
  related_answer a b e f =
      ap (λ (n : ℕ). answered n (related_in left right (packed R ++ rest) s t)) (unrefused left right (length (packed R ++ rest)) s t a b h k e f) ∙ ap Ok related_packed
