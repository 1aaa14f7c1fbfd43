-- The constants as a sign, a whole number and a power of two: the form that comparisons and sums compute with.
-- A constant stands by its bits in code and contracts; under `unfolding of_bits of_fields` the two are one by computation.
use mathlib.Core.Path.{◌≡◌, refl}
use mathlib.Core.Bool.{true, false}
use lib.IntN.{pos, negsuc}
use lib.Ieee.{fin, of_bits, of_fields}
use Rattle.numbers.specs.Real.{nought, one, half, tenth, least_weight, greatest_weight, greatest_joined, least_observation, greatest_factor, greatest_rate, eps, slack, margin, fineness}

pub nought_is : nought ≡ fin false 0 (pos 0)
unfolding of_bits of_fields
nought_is = refl

pub one_is : one ≡ fin false 1 (pos 0)
unfolding of_bits of_fields
one_is = refl

pub half_is : half ≡ fin false 1 (negsuc 0)
unfolding of_bits of_fields
half_is = refl

pub tenth_is : tenth ≡ fin false 3602879701896397 (negsuc 54)
unfolding of_bits of_fields
tenth_is = refl

pub least_weight_is : least_weight ≡ fin false 1 (negsuc 39)
unfolding of_bits of_fields
least_weight_is = refl

pub greatest_weight_is : greatest_weight ≡ fin false 1 (pos 40)
unfolding of_bits of_fields
greatest_weight_is = refl

pub greatest_joined_is : greatest_joined ≡ fin false 1 (pos 52)
unfolding of_bits of_fields
greatest_joined_is = refl

pub least_observation_is : least_observation ≡ fin true 1 (pos 40)
unfolding of_bits of_fields
least_observation_is = refl

pub greatest_factor_is : greatest_factor ≡ fin false 1 (pos 20)
unfolding of_bits of_fields
greatest_factor_is = refl

pub greatest_rate_is : greatest_rate ≡ fin false 1 (pos 64)
unfolding of_bits of_fields
greatest_rate_is = refl

pub eps_is : eps ≡ fin false 4951760157141521 (negsuc 91)
unfolding of_bits of_fields
eps_is = refl

pub slack_is : slack ≡ fin false 4835703278458517 (negsuc 81)
unfolding of_bits of_fields
slack_is = refl

pub margin_is : margin ≡ fin false 2535301200456459 (negsuc 100)
unfolding of_bits of_fields
margin_is = refl

pub fineness_is : fineness ≡ fin false 7378697629483821 (negsuc 65)
unfolding of_bits of_fields
fineness_is = refl
