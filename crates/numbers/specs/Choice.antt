-- The lesser and the greater of two numbers, and how far they are apart.
use Rattle.std.specs.Prelude.{Bool, true, false, Float}
use Rattle.std.specs.Float.{binary64}
use Rattle.std.specs.Float.Ieee.{neg, sub, lt}
use Rattle.numbers.specs.Real.{nought}

abbrev pub choose : Bool → Float → Float → Float
choose true x y = x
choose false x y = y

-- `min` and `max` of the Rust, where x is no NaN
unfoldable pub smaller : Float → Float → Float
unfolding lt
smaller x y = choose (lt y x) y x

unfoldable pub larger : Float → Float → Float
unfolding lt
larger x y = choose (lt x y) y x

-- |x|
unfoldable pub magnitude : Float → Float
unfolding lt neg
magnitude x = choose (lt x nought) (neg x) x

-- |x - y|
unfoldable pub apart : Float → Float → Float
unfolding magnitude sub
apart x y = magnitude (sub binary64 x y)
