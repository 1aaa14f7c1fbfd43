-- Policy iteration of `distance` (kantorovich.rs): couplings are evaluated by sweeps and improved by transport, from the independent ones on.
use Rattle.std.specs.Prelude.{ℕ, zero, suc, Bool, true, false, not, ◌||◌, List, [], ◌∷◌, map, length, get_or, set, replicate, Float}
use Rattle.std.specs.Float.{nan, inf, binary64}
use Rattle.std.specs.Float.Ieee.{add, sub, mul, lt, le}
use Rattle.numbers.specs.Real.{nought, one, eps, tenth}
use Rattle.numbers.specs.Choice.{larger, apart}
use Rattle.distance_theory.specs.Pairs.{Pair}
use Rattle.distance_theory.specs.Couplings.{Share, expected, independent, Metric, row_l, row_r, Best, best_coupling}
use Rattle.distance_theory.specs.declared.MetricOptions.{MetricOptions}

-- ---- `evaluate`: the values of some couplings

-- the value of each pair, and by how much this sweep has moved one at most
pub record Values : Type 0 where
  pub value : List Float
  pub delta : Float

-- cost + γ × Σ mass × value
abbrev pub backup : Metric → ℕ → Float → Float
backup G k x = add binary64 (get_or G.cost k nan) (mul binary64 G.gamma x)

-- the value of pair k, with coupling cs
unfoldable pub update : Metric → ℕ → List Share → Values → Values
unfolding add mul expected larger apart
update G k cs w =
    let x = backup G k (expected w.value cs) in
    record { value = set w.value k x; delta = larger w.delta (apart x (get_or w.value k nan)) }

-- the pairs from k on, with their couplings
unfoldable pub sweep : Metric → ℕ → List (List Share) → Values → Values
unfolding update
sweep G k [] w = w
sweep G k (cs ∷ policy) w = sweep G (suc k) policy (update G k cs w)

-- all pairs
abbrev pub swept : Metric → List (List Share) → List Float → Values
swept G policy v = sweep G 0 policy (record { value = v; delta = nought })

-- at most k sweeps, up to one that moves no value by more than tol
unfoldable pub sweeps : Metric → List (List Share) → Float → ℕ → List Float → List Float
unfolding sweep le
sweeps G policy tol zero v = v
sweeps G policy tol (suc k) v = let w = swept G policy v in elim (le w.delta tol) [ true ↦ w.value | false ↦ sweeps G policy tol k w.value ]

-- the most sweeps of an evaluation, and the most rounds of `occupancy`
abbrev pub many : ℕ
many = 1000000

unfoldable pub evaluate : Metric → List (List Share) → Float → List Float → List Float
unfolding sweeps
evaluate G policy tol v = sweeps G policy tol many v

-- ---- improvement

-- the couplings, the most that a value is off, and whether a coupling has changed
pub record Improvement : Type 0 where
  pub policy : List (List Share)
  pub residual : Float
  pub improved : Bool

-- pair k has another coupling, or does not
abbrev pub adopt : Bool → ℕ → List Share → List (List Share) → Float → Bool → Improvement
adopt true k cs policy residual improved = record { policy = set policy k cs; residual = residual; improved = true }
adopt false k cs policy residual improved = record { policy = policy; residual = residual; improved = improved }

-- a coupling that is better by more than 1e-12
abbrev pub better : List Float → Best → List Share → Bool
better v b cs = lt b.value (sub binary64 (expected v cs) eps)

-- pair k, which is p
unfoldable pub improve : Metric → List Float → ℕ → Pair → Improvement → Improvement
unfolding best_coupling expected larger apart lt sub add mul
improve G v k p r =
    let b = best_coupling G v p in
    adopt (better v b (get_or r.policy k [])) k b.coupling r.policy (larger r.residual (apart (backup G k b.value) (get_or v k nan))) r.improved

-- the pairs from k on
unfoldable pub improve_all : Metric → List Float → ℕ → List Pair → Improvement → Improvement
unfolding improve
improve_all G v k [] r = r
improve_all G v k (p ∷ ps) r = improve_all G v (suc k) ps (improve G v k p r)

-- ---- rounds

-- the values, the couplings, the most that a value was off, and the rounds made
pub record Solution : Type 0 where
  pub value : List Float
  pub policy : List (List Share)
  pub residual : Float
  pub rounds : ℕ

-- tol × (1 - γ)
abbrev pub aim : Metric → Float → Float
aim G tol = mul binary64 tol (sub binary64 one G.gamma)

-- the values of the couplings, ten times as fine
abbrev pub valued : Metric → Float → Solution → List Float
valued G tol s = evaluate G s.policy (mul binary64 (aim G tol) tenth) s.value

-- the couplings improved against values v
abbrev pub improved_from : Metric → List Float → List (List Share) → Improvement
improved_from G v policy = improve_all G v 0 G.found (record { policy = policy; residual = nought; improved = false })

-- a round goes on, or is the last: no coupling has changed, or no value is off by more than tol × (1 - γ)
pub data Round : Type 0 where
  again : Solution → Round
  last : Solution → Round

abbrev pub judged : Bool → Solution → Round
judged true s = last s
judged false s = again s

abbrev pub ended : Metric → Float → Improvement → Bool
ended G tol r = not r.improved || le r.residual (aim G tol)

abbrev pub after : List Float → Improvement → ℕ → Solution
after v r n = record { value = v; policy = r.policy; residual = r.residual; rounds = suc n }

unfoldable pub round : Metric → Float → Solution → Round
unfolding evaluate improve_all mul sub le
round G tol s =
    let v = valued G tol s in
    let r = improved_from G v s.policy in
    judged (ended G tol r) (after v r s.rounds)

-- at most k rounds
unfoldable pub iterate : Metric → Float → ℕ → Solution → Solution
unfolding round
iterate G tol zero s = s
iterate G tol (suc k) s = elim (round G tol s) [ again r ↦ iterate G tol k r | last r ↦ r ]

-- the independent coupling of a pair
abbrev pub first_coupling : Metric → Pair → List Share
first_coupling G p = independent G.found (row_l G p) (row_r G p)

-- no value yet, the independent couplings, and no bound
unfoldable pub begin : Metric → Solution
unfolding independent
begin G = record { value = replicate (length G.found) nought; policy = map (first_coupling G) G.found; residual = inf false; rounds = 0 }

-- a tolerance that is NaN or below 1e-12 counts as 1e-12
abbrev pub tolerance : MetricOptions → Float
tolerance o = larger eps o.tolerance

unfoldable pub solve : Metric → MetricOptions → Solution
unfolding iterate begin larger
solve G o = iterate G (tolerance o) o.max_rounds (begin G)
