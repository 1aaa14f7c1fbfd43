-- Rounds on couplings in the store: their values, and their improvement against these, up to a round that changes no coupling or leaves no value off by more than the aim.
use Prim.Native.Nat.{ℕ, zero, suc}
use mathlib.Core.Bool.{Bool, true, false, not, ◌||◌}
use mathlib.Core.List.{List}
use lib.Ieee.{Float, inf, le}
use lib.ListN.{length}
use Rattle.chain_theory.specs.Columns.{ChainColumns}
use Rattle.chain_theory.specs.Lent.{of_chain}
use Rattle.distance_theory.specs.declared.lent.StoreMut.{StoreMut}
use Rattle.distance_theory.specs.declared.lent.Task.{Task as Given}
use Rattle.distance_words.specs.declared.told.Rounds.{Rounds}
use Rattle.distance_theory.specs.Rounds.{many}
use Rattle.distance_words.proofs.Valuing.{Valued, evaluated}
use Rattle.distance_words.proofs.Improving.{Bettered, improve}

-- what a run reads and never writes: the number of pairs, their states and codes, the chains, costs and discount, where each coupling starts, and how near the values are wanted
pub record Task : Type 0 where
  pub pairs : ℕ
  pub lefts : List ℕ
  pub rights : List ℕ
  pub codes : List ℕ
  pub left : ChainColumns
  pub right : ChainColumns
  pub cost : List Float
  pub gamma : Float
  pub starts : List ℕ
  pub aim : Float
  pub fine : Float

abbrev pub task : ℕ → List ℕ → List ℕ → List ℕ → ChainColumns → ChainColumns → List Float → Float → List ℕ → Float → Float → Task
task n l r c C D cost γ s aim fine = record { pairs = n; lefts = l; rights = r; codes = c; left = C; right = D; cost = cost; gamma = γ; starts = s; aim = aim; fine = fine }

-- the most that a value was off, the rounds made, the values, and the store
pub record Iterated : Type 0 where
  pub residual : Float
  pub rounds : ℕ
  pub values : List Float
  pub lengths : List ℕ
  pub places : List ℕ
  pub masses : List Float

abbrev pub iterated : Float → ℕ → List Float → List ℕ → List ℕ → List Float → Iterated
iterated x n v l p m = record { residual = x; rounds = n; values = v; lengths = l; places = p; masses = m }

-- the values of the couplings
abbrev pub values_of : Task → List Float → List ℕ → List ℕ → List Float → List Float
values_of T v l p m = (evaluated many T.starts l p m T.cost T.gamma T.fine v T.pairs).value

abbrev pub bettered_of : Task → List Float → List ℕ → List ℕ → List Float → Bettered
bettered_of T v l p m = improve T.pairs T.lefts T.rights T.codes T.left T.right v T.cost T.gamma T.starts l p m

abbrev pub ended : Float → Bettered → Bool
ended aim b = not b.improved || le b.residual aim

-- at most j rounds more
unfoldable pub iterate_from : Task → ℕ → Float → ℕ → List Float → List ℕ → List ℕ → List Float → Iterated
unfolding le
iterate_from T zero x n v l p m = iterated x n v l p m
iterate_from T (suc j) x n v l p m =
    let u = values_of T v l p m in
    let b = bettered_of T u l p m in
    elim (ended T.aim b) [ true ↦ iterated b.residual (suc n) u b.lengths b.places b.masses | false ↦ iterate_from T j b.residual (suc n) u b.lengths b.places b.masses ]

-- ---- the same of a task's pairs, in the lists that are lent, where the couplings start at s

abbrev pub task_of : Given → ℕ → List ℕ → Float → Float → Task
task_of T n s aim fine = task n T.pairs.lefts.now T.pairs.rights.now T.pairs.codes.now (of_chain T.left) (of_chain T.right) T.cost.now T.gamma s aim fine

abbrev pub iterated_as : Rounds → List Float → StoreMut → Iterated
iterated_as r v S = iterated r.residual r.rounds v S.lengths.now S.places.now S.masses.now

-- the values of all pairs
abbrev pub valued_in : Given → List ℕ → StoreMut → Float → List Float → Valued
valued_in T s S tol v = evaluated many s S.lengths.now S.places.now S.masses.now T.cost.now T.gamma tol v (length v)

abbrev pub iterate_in : ℕ → Given → Float → Float → List ℕ → StoreMut → List Float → Iterated
iterate_in k T aim fine s S v = iterate_from (task_of T (length v) s aim fine) k (inf false) 0 v S.lengths.now S.places.now S.masses.now
