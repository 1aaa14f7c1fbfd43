-- Of which rows the flows of two tests of one pair, forth and back, hardly differ, and by how much at most.
use Rattle.std.specs.Prelude.{Bool, ◌&&◌, ℕ, Float}
use Rattle.std.specs.Float.{binary64}
use Rattle.std.specs.Float.Ieee.{of_bits, lt, le}
use Rattle.numbers.specs.Real.{nought, one}

-- rows of at most so many jumps
abbrev pub row_most : ℕ
row_most = 14

-- is a divided rate above 0 and at most 1
abbrev pub is_share : Float → Bool
is_share x = lt nought x && le x one

-- 9.2e-10
abbrev pub spare : Float
spare = of_bits binary64 0x3e0f9c67d41e8097
