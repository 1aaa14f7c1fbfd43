-- `related` of epsdelta.rs, over any bytes that are lent for a relation.
use Rattle.std.specs.Prelude.{ℕ, ◌+◌, ◌*◌, Bool, ◌||◌, Result, List, ltb, leb, length}
use Rattle.numbers.specs.Refuse.{check, answered}
use Rattle.numbers.specs.Bits.{bit_at}
use Rattle.epsdelta_theory.specs.Relation.{relation_bytes}

-- checks 3, 4, 7 and 10 of so many left states and right ones, so many bytes, a left state and a right one
abbrev pub related_refusal : ℕ → ℕ → ℕ → ℕ → ℕ → ℕ
related_refusal left right bytes s t =
    check 3 (ltb 2000 left || ltb 2000 right)
    (check 4 (leb left s || leb right t)
    (check 7 (ltb bytes (relation_bytes (left + right)))
    (check 10 (ltb 2000 (left + right))
    0)))

-- the bit of s and t, with t counted after the left states
abbrev pub related_in : ℕ → ℕ → List ℕ → ℕ → ℕ → Bool
related_in left right bytes s t = bit_at bytes (s * (left + right) + (left + t))

-- so many left states and right ones, bytes, a left state and a right one
unfoldable pub related_outcome : ℕ → ℕ → List ℕ → ℕ → ℕ → Result Bool ℕ
unfolding bit_at
related_outcome left right bytes s t = answered (related_refusal left right (length bytes) s t) (related_in left right bytes s t)
