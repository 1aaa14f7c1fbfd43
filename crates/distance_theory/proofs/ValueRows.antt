-- Words of private contracts: what the loops of `evaluate` and `occupancy` leave behind, over rows.
use mathlib.Core.Path.{◌≡◌}
use mathlib.Core.List.{List}
use lib.ListN.{length, replicate}
use lib.Ieee.{Float}
use Rattle.numbers.specs.Real.{nought, sum}
use Rattle.distance_theory.specs.Rounds.{Values}
use Rattle.distance_theory.specs.Contributions.{Visits, Stay}

-- the values after a sweep, and by how much one has moved at most
pub record Swept (w : Values) (v : List Float) (d : Float) : Type 0 where
  pub value_is : v ≡ w.value
  pub delta_is : d ≡ w.delta

-- the time spent, and the masses of the next round
abbrev pub staying : List Float → List Float → Stay
staying s x = record { spent = s; next = x }

pub record Stayed (w : Stay) (s x : List Float) : Type 0 where
  pub spent_is : s ≡ w.spent
  pub next_is : x ≡ w.next

-- masses x are the present ones, m is their sum, and none has come yet
pub record Advanced (x : List Float) (m : Float) (c y : List Float) : Type 0 where
  pub mass_is : m ≡ sum x
  pub current_is : c ≡ x
  pub next_is : y ≡ replicate (length x) nought

-- the time spent, the present masses, and their sum
abbrev pub visiting : List Float → List Float → Float → Visits
visiting s c m = record { spent = s; now = c; mass = m }

-- the mass that is left, and the time spent
pub record Rested (w : Visits) (m : Float) (s : List Float) : Type 0 where
  pub mass_is : m ≡ w.mass
  pub spent_is : s ≡ w.spent
