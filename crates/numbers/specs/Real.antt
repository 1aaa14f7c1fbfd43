-- `Real` of semiring.rs, and the constants of document 01. Numbers are binary64, one rounding per operation.
use Rattle.std.specs.Prelude.{Bool, false, ◌&&◌, List, [], ◌∷◌, Float}
use Rattle.std.specs.Float.{inf, binary64}
use Rattle.std.specs.Float.Ieee.{of_bits, add, eq, le, lt}

-- +0
abbrev pub nought : Float
nought = of_bits binary64 0

-- zero: equal to 0, which -0 is too
abbrev pub is_zero : Float → Bool
is_zero w = eq w nought

-- valid: finite and at least 0
abbrev pub is_valid : Float → Bool
is_valid w = le nought w && lt w (inf false)

-- from x on, left to right
unfoldable pub sum_from : Float → List Float → Float
sum_from x [] = x
sum_from x (w ∷ ws) = sum_from (add binary64 x w) ws

-- the one sum: left to right from +0
unfoldable pub sum : List Float → Float
unfolding sum_from
sum ws = sum_from nought ws

-- ---- constants, each by its bits, as a literal of the code stands in a goal

abbrev pub one : Float
one = of_bits binary64 0x3ff0000000000000

abbrev pub half : Float
half = of_bits binary64 0x3fe0000000000000

-- 0.1: how much finer than asked for `evaluate` stops
abbrev pub tenth : Float
tenth = of_bits binary64 0x3fb999999999999a

-- 2^-40 and 2^40, the least and the greatest weight of a transition; 2^40 is also the greatest capacity, cost, mass and observation
abbrev pub least_weight : Float
least_weight = of_bits binary64 0x3d70000000000000

abbrev pub greatest_weight : Float
greatest_weight = of_bits binary64 0x4270000000000000

-- 2^52, the greatest weight once joined
abbrev pub greatest_joined : Float
greatest_joined = of_bits binary64 0x4330000000000000

-- -2^40, the least observation before `normalise`
abbrev pub least_observation : Float
least_observation = of_bits binary64 0xc270000000000000

-- 2^20, the greatest factor of the rate test
abbrev pub greatest_factor : Float
greatest_factor = of_bits binary64 0x4130000000000000

-- 2^64, the greatest rate of `uniformise`
abbrev pub greatest_rate : Float
greatest_rate = of_bits binary64 0x43f0000000000000

-- 1e-12: what is left of a capacity, or a mass, counts if it is above this
abbrev pub eps : Float
eps = of_bits binary64 0x3d719799812dea11

-- 1e-9: the allowance of sums and of the flow test
abbrev pub slack : Float
slack = of_bits binary64 0x3e112e0be826d695

-- 1e-15: the margin of a shorter path, and of the mass that stays
abbrev pub margin : Float
margin = of_bits binary64 0x3cd203af9ee75616

-- 1e-4: `min_epsilon` halves while its bounds are further apart
abbrev pub fineness : Float
fineness = of_bits binary64 0x3f1a36e2eb1c432d
