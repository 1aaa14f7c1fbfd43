-- What a list is filled with before it is lent.
use Rattle.std.specs.Prelude.{Float}
use Rattle.std.specs.Float.{binary64}
use Rattle.std.specs.Float.Ieee.{of_bits}

-- 7.5
abbrev pub mark : Float
mark = of_bits binary64 0x401e000000000000
