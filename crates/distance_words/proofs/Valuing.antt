-- What `sweeps` and `visits` answer, and what they leave in the list that is lent to them, for couplings in rows of numbers.
use Rattle.std.specs.Prelude.{Result, Ok, Err}
use Prim.Native.Nat.{ℕ}
use mathlib.Core.Bool.{Bool, true, false, ◌&&◌}
use mathlib.Core.List.{List, []}
use lib.Dec.{leb}
use lib.ListN.{length, take}
use lib.Ieee.{Float}
use Rattle.numbers.specs.Real.{nought}
use Rattle.numbers.specs.Lists.{over}
use Rattle.chain_theory.specs.Chain.{Chain}
use Rattle.distance_theory.specs.declared.lent.Store.{Store}
use Rattle.distance_theory.specs.Pairs.{most}
use Rattle.distance_theory.specs.Couplings.{Metric}
use Rattle.distance_theory.specs.Rounds.{sweeps}
use Rattle.distance_theory.specs.Contributions.{Visits, visits, depart}
use Rattle.distance_theory.proofs.Held.{policy_in}
use Rattle.distance_words.proofs.Readable.{held}

-- ---- `sweeps`

-- no states
abbrev pub nowhere : Chain
nowhere = record { rows = []; observations = []; initial = 0 }

-- all that a sweep reads: the discount, and the cost of each pair
abbrev pub priced : Float → List Float → Metric
priced γ cost = record { left = nowhere; right = nowhere; gamma = γ; found = []; cost = cost }

-- the number of the refusal, 0 if there is none, and the values
pub record Valued : Type 0 where
  pub refusal : ℕ
  pub value : List Float

abbrev pub valued : ℕ → List Float → Valued
valued r v = record { refusal = r; value = v }

-- a cost and a value for each of n pairs, and a coupling that can be read
abbrev pub evaluable : List ℕ → List ℕ → List ℕ → List Float → List Float → List Float → ℕ → Bool
evaluable starts lengths places masses cost v n = leb n (length cost) && (leb n (length v) && held starts lengths places masses n)

abbrev pub evaluated_if : Bool → List Float → List Float → Valued
evaluated_if true new v = valued 0 (over new v)
evaluated_if false new v = valued 18 v

-- the values of the first n pairs after at most k sweeps; entries past them keep their contents, and so do all where it is refused
abbrev pub evaluated : ℕ → List ℕ → List ℕ → List ℕ → List Float → List Float → Float → Float → List Float → ℕ → Valued
evaluated k starts lengths places masses cost γ tol v n =
    evaluated_if (evaluable starts lengths places masses cost v n) (sweeps (priced γ (take n cost)) (policy_in starts lengths places masses n) tol k (take n v)) v

-- the same of couplings that are lent, for all values
abbrev pub evaluated_in : ℕ → Store → List Float → Float → Float → List Float → Valued
evaluated_in k R cost γ tol v = evaluated k R.starts.now R.lengths.now R.places.now R.masses.now cost γ tol v (length v)

-- ---- `visits`

-- the number of the refusal, 0 if there is none, the mass that is left, and the time spent in each pair
pub record Occupied : Type 0 where
  pub refusal : ℕ
  pub mass : Float
  pub spent : List Float

abbrev pub occupied : ℕ → Float → List Float → Occupied
occupied r x l = record { refusal = r; mass = x; spent = l }

-- of what is answered: the mass that is left, or a refusal
abbrev pub occupied_as : Result Float ℕ → List Float → Occupied
occupied_as (Ok x) l = occupied 0 x l
occupied_as (Err r) l = occupied r nought l

-- at most 4,096 pairs, an entry for each, and a coupling that can be read
abbrev pub occupiable : List ℕ → List ℕ → List ℕ → List Float → List Float → ℕ → Bool
occupiable starts lengths places masses l n = leb n most && (leb n (length l) && held starts lengths places masses n)

abbrev pub occupied_if : Bool → Visits → List Float → Occupied
occupied_if true w l = occupied 0 w.mass (over w.spent l)
occupied_if false w l = occupied 18 nought l

-- the time spent in the first n pairs in at most k rounds, from the first pair on; entries past them keep their contents, and so do all where it is refused
abbrev pub visited : ℕ → List ℕ → List ℕ → List ℕ → List Float → Float → List Float → ℕ → Occupied
visited k starts lengths places masses γ l n = occupied_if (occupiable starts lengths places masses l n) (visits γ (policy_in starts lengths places masses n) k (depart γ n)) l

-- the same of couplings that are lent, for all pairs
abbrev pub visited_in : ℕ → Store → Float → List Float → Occupied
visited_in k R γ l = visited k R.starts.now R.lengths.now R.places.now R.masses.now γ l (length l)
