-- Couplings of the rows of a pair: the independent one, and the cheapest against some values (`best_coupling` of kantorovich.rs).
use Rattle.std.specs.Prelude.{ℕ, ◌+◌, ◌*◌, Bool, true, false, not, ◌||◌, List, [], ◌∷◌, map, length, get_or, eqb, Float}
use Rattle.std.specs.Float.{nan, binary64}
use Rattle.std.specs.Float.Ieee.{sub, mul, div}
use Rattle.numbers.specs.Real.{one, sum}
use Rattle.numbers.specs.Choice.{apart}
use Rattle.epsdelta_theory.specs.Jumps.{Jump, targets, rates}
use Rattle.chain_theory.specs.Chain.{Chain}
use Rattle.transport_theory.specs.Transport.{Cell, transport}
use Rattle.transport_theory.specs.Refusal.{unequal}
use Rattle.distance_theory.specs.Pairs.{Pair, pair, place, cross, target_pair, row_of, pairs}

-- a part of a coupling: where the pair that follows stands, and its mass
pub record Share : Type 0 where
  pub at : ℕ
  pub mass : Float

abbrev pub share : ℕ → Float → Share
share j m = record { at = j; mass = m }

-- places and masses, side by side
unfoldable pub shares_of : List ℕ → List Float → List Share
shares_of [] ms = []
shares_of (p ∷ ps) [] = []
shares_of (p ∷ ps) (m ∷ ms) = share p m ∷ shares_of ps ms

abbrev pub weighed : List Float → Share → Float
weighed v c = mul binary64 c.mass (get_or v c.at nan)

-- Σ mass × value
unfoldable pub expected : List Float → List Share → Float
unfolding sum mul
expected v cs = sum (map (weighed v) cs)

-- each entry with each, the probabilities multiplied
unfoldable pub independent : List Pair → List Jump → List Jump → List Share
unfolding cross place mul
independent found es fs = cross (λ e f. share (place (target_pair e f) found) (mul binary64 e.rate f.rate)) es fs

-- ---- what a run does not change: the chains, the discount, the pairs and the cost of each

pub record Metric : Type 0 where
  pub left : Chain
  pub right : Chain
  pub gamma : Float
  pub found : List Pair
  pub cost : List Float

-- |r(x) - r(y)|
abbrev pub gap : Chain → Chain → Pair → Float
gap A B p = apart (get_or A.observations p.left nan) (get_or B.observations p.right nan)

-- (1 - γ) × gap
abbrev pub cost_of : Chain → Chain → Float → Pair → Float
cost_of A B γ p = mul binary64 (sub binary64 one γ) (gap A B p)

unfoldable pub metric : Chain → Chain → Float → Metric
unfolding pairs apart mul sub
metric A B γ = let found = pairs A B in record { left = A; right = B; gamma = γ; found = found; cost = map (cost_of A B γ) found }

abbrev pub row_l : Metric → Pair → List Jump
row_l G p = row_of G.left p.left

abbrev pub row_r : Metric → Pair → List Jump
row_r G p = row_of G.right p.right

-- ---- the cheapest coupling

-- its Σ mass × value, and itself
pub record Best : Type 0 where
  pub value : Float
  pub coupling : List Share

-- the probabilities of the right row fitted to the left one's total: × ta, then / tb
unfoldable pub fitted : List Jump → List Jump → List Float
unfolding sum mul div
fitted es fs = let ta = sum (rates es) in let tb = sum (rates fs) in map (λ (x : Float). div binary64 (mul binary64 x ta) tb) (rates fs)

-- the value of each pair that follows
unfoldable pub values_at : List Pair → List Float → List Jump → List Jump → List Float
unfolding cross place
values_at found v es fs = cross (λ e f. get_or v (place (target_pair e f) found) nan) es fs

-- a cell of the plan as a part of a coupling
abbrev pub planned : List Pair → List Jump → List Jump → Cell → Share
planned found es fs c = share (place (pair (get_or (targets es) c.row 0) (get_or (targets fs) c.column 0)) found) c.mass

-- a row of one entry leaves only one coupling
abbrev pub point_mass : List Jump → List Jump → Bool
point_mass es fs = eqb (length es) 1 || eqb (length fs) 1

unfoldable pub best_of : Bool → List Pair → List Float → List Jump → List Jump → Best
unfolding independent expected transport fitted values_at
best_of true found v es fs = let cs = independent found es fs in record { value = expected v cs; coupling = cs }
best_of false found v es fs =
    let t = transport (rates es) (fitted es fs) (values_at found v es fs) in
    record { value = t.total; coupling = map (planned found es fs) t.plan }

unfoldable pub best_coupling : Metric → List Float → Pair → Best
unfolding best_of
best_coupling G v p = best_of (point_mass (row_l G p) (row_r G p)) G.found v (row_l G p) (row_r G p)

-- ---- what the couplings of all pairs need

-- the two row lengths multiplied, over all pairs
unfoldable pub room : Metric → List Pair → ℕ
room G [] = 0
room G (p ∷ ps) = length (row_l G p) * length (row_r G p) + room G ps

-- 16 does not come up for this pair: `transport` is not asked, or its totals agree
abbrev pub even : Metric → Pair → Bool
even G p = point_mass (row_l G p) (row_r G p) || not (unequal (sum (rates (row_l G p))) (sum (fitted (row_l G p) (row_r G p))))
