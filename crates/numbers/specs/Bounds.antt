-- The numbers from a least one to a greatest one.
use Rattle.std.specs.Prelude.{Bool, ◌&&◌, Float}
use Rattle.std.specs.Float.Ieee.{le}

-- a number from lo to hi; NaN is none
abbrev pub within : Float → Float → Float → Bool
within lo hi x = le lo x && le x hi
