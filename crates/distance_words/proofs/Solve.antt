-- The rounds of a run, from lists of its pairs: the first couplings are laid (18 where the store is short), 16 is looked for where there are rounds, and the rounds are made.
use Prim.Native.Nat.{ℕ}
use mathlib.Core.Bool.{Bool, true, false, not, ◌&&◌}
use mathlib.Core.List.{List}
use lib.Dec.{ltb}
use lib.Ieee.{Float, inf, binary64, sub, mul}
use Rattle.numbers.specs.Real.{nought, one, tenth}
use Rattle.chain_theory.specs.Columns.{ChainColumns}
use Rattle.distance_theory.specs.Rounds.{tolerance}
use Rattle.distance_theory.specs.declared.MetricOptions.{MetricOptions}
use Rattle.distance_words.proofs.Store.{Filled, fill}
use Rattle.distance_words.proofs.Even.{all_even}
use Rattle.distance_words.proofs.Iterating.{task, Iterated, iterate_from}
use Rattle.std.specs.Prelude.{Result, Ok, Err}
use Rattle.distance_words.specs.declared.told.Rounds.{Rounds}

-- the number of the refusal, 0 if there is none, the most that a value was off, the rounds made, and the lists then
pub record Solving : Type 0 where
  pub refusal : ℕ
  pub residual : Float
  pub rounds : ℕ
  pub starts : List ℕ
  pub lengths : List ℕ
  pub places : List ℕ
  pub masses : List Float
  pub values : List Float

abbrev pub solving : ℕ → Float → ℕ → List ℕ → List ℕ → List ℕ → List Float → List Float → Solving
solving r x n s l p m v = record { refusal = r; residual = x; rounds = n; starts = s; lengths = l; places = p; masses = m; values = v }

-- of what is answered: a refusal, with no round made, or the rounds
abbrev pub solved : Result Rounds ℕ → List ℕ → List ℕ → List ℕ → List Float → List Float → Solving
solved (Ok w) s l p m v = solving 0 w.residual w.rounds s l p m v
solved (Err r) s l p m v = solving r nought 0 s l p m v

-- 16: there are rounds, and the totals of a pair do not agree
abbrev pub uneven : ℕ → ℕ → List ℕ → List ℕ → ChainColumns → ChainColumns → Bool
uneven rounds n lefts rights C D = ltb 0 rounds && not (all_even n lefts rights C D)

-- tolerance × (1 - γ), and a tenth of it
abbrev pub aim_of : Float → MetricOptions → Float
aim_of γ o = mul binary64 (tolerance o) (sub binary64 one γ)

abbrev pub fine_of : Float → MetricOptions → Float
fine_of γ o = mul binary64 (aim_of γ o) tenth

-- laid or not, uneven or not
abbrev pub solve_if : Bool → Bool → Filled → Iterated → List Float → Solving
solve_if false u f w v = solving 18 nought 0 f.starts f.lengths f.places f.masses v
solve_if true true f w v = solving 16 nought 0 f.starts f.lengths f.places f.masses v
solve_if true false f w v = solving 0 w.residual w.rounds f.starts w.lengths w.places w.masses w.values

-- the rounds from couplings in the store
abbrev pub rounds_of : ℕ → List ℕ → List ℕ → List ℕ → ChainColumns → ChainColumns → List Float → Float → MetricOptions → List Float → Filled → Iterated
rounds_of n lefts rights codes C D cost γ o v f =
    iterate_from (task n lefts rights codes C D cost γ f.starts (aim_of γ o) (fine_of γ o)) o.max_rounds (inf false) 0 v f.lengths f.places f.masses

-- from the first couplings on
abbrev pub solve_from : ℕ → List ℕ → List ℕ → List ℕ → ChainColumns → ChainColumns → List Float → Float → MetricOptions → List Float → Filled → Solving
solve_from n lefts rights codes C D cost γ o v f = solve_if f.done (uneven o.max_rounds n lefts rights C D) f (rounds_of n lefts rights codes C D cost γ o v f) v

abbrev pub solve_of : ℕ → List ℕ → List ℕ → List ℕ → ChainColumns → ChainColumns → List Float → Float → MetricOptions → List ℕ → List ℕ → List ℕ → List Float → List Float → Solving
solve_of n lefts rights codes C D cost γ o s l p m v = solve_from n lefts rights codes C D cost γ o v (fill n lefts rights codes C D s l p m)
