-- What a test chooses: the lesser, the greater, and the difference without its sign.
use mathlib.Core.Path.{◌≡◌, sym, ap}
use mathlib.Core.Bool.{Bool}
use lib.Ieee.{Float, binary64, neg, sub, lt}
use Rattle.numbers.specs.Real.{nought}
use Rattle.numbers.specs.Choice.{choose, smaller, larger, magnitude, apart}

pub chosen : (b c : Bool) (x y : Float) → b ≡ c → choose c x y ≡ choose b x y
chosen b c x y e = ap (λ (t : Bool). choose t x y) (sym e)

module _ (x y : Float) where
  pub smaller_is : (b : Bool) → lt y x ≡ b → choose b y x ≡ smaller x y
  unfolding smaller
  smaller_is b e = chosen (lt y x) b y x e

  pub larger_is : (b : Bool) → lt x y ≡ b → choose b y x ≡ larger x y
  unfolding larger
  larger_is b e = chosen (lt x y) b y x e

  pub apart_is : (b : Bool) → lt (sub binary64 x y) nought ≡ b → choose b (neg (sub binary64 x y)) (sub binary64 x y) ≡ apart x y
  unfolding apart magnitude
  apart_is b e = chosen (lt (sub binary64 x y) nought) b (neg (sub binary64 x y)) (sub binary64 x y) e
