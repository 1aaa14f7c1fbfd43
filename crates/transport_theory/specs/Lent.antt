-- Masses that are lent.
use Rattle.std.specs.Prelude.{ℕ, Bool, ◌+◌, ◌*◌, Option, Some, None, cond, ◌&&◌, leb}

-- at most 32 of them on a side
abbrev pub few : ℕ → ℕ → Bool
few m n = leb m 32 && leb n 32

-- the places of the links of m and n masses and of their reverses, where there are at most 32 on a side
abbrev pub places_of : ℕ → ℕ → Option ℕ
places_of m n = cond (few m n) (Some (2 * (m + n + m * n))) None
