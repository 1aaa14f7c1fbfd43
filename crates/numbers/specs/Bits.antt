-- Bits of a store of bytes: one bit for each entry of a relation, lowest bit of a byte first.
use Rattle.std.specs.Prelude.{ℕ, zero, suc, ◌+◌, ◌-◌, ◌*◌, ◌/◌, ◌%◌, ◌^◌, Bool, true, false, List, [], ◌∷◌, eqb, length, get_or, set, take, drop}

-- the number of some bits, lowest first
unfoldable pub bits : List Bool → ℕ
bits [] = 0
bits (true ∷ bs) = 1 + 2 * bits bs
bits (false ∷ bs) = 2 * bits bs

-- n bytes of eight entries each
unfoldable pub pack : ℕ → List Bool → List ℕ
unfolding bits
pack zero bs = []
pack (suc n) bs = bits (take 8 bs) ∷ pack n (drop 8 bs)

-- as many bytes as the entries need; spare bits are zero
unfoldable pub packed : List Bool → List ℕ
unfolding pack
packed R = pack ((length R + 7) / 8) R

-- bit i of a store; none is set past its end
unfoldable pub bit_at : List ℕ → ℕ → Bool
bit_at store i = eqb (get_or store (i / 8) 0 / 2 ^ (i % 8) % 2) 1

-- k entries, from bit i on
unfoldable pub unpack : List ℕ → ℕ → ℕ → List Bool
unfolding bit_at
unpack store zero i = []
unpack store (suc k) i = bit_at store i ∷ unpack store k (suc i)

-- a byte with its bit k cleared: less what that bit counts
abbrev pub without : ℕ → ℕ → ℕ
without b k = b - b / 2 ^ k % 2 * 2 ^ k

-- a store with its bit i cleared; past its end there is nothing to clear
unfoldable pub cleared : List ℕ → ℕ → List ℕ
cleared store i = set store (i / 8) (without (get_or store (i / 8) 0) (i % 8))
