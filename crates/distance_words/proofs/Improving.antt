-- The improvement of couplings that stand in the store: each pair in turn gets the cheapest coupling against some values, where that is better by more than 1e-12.
use Prim.Native.Nat.{ℕ, zero, suc, ◌+◌}
use mathlib.Core.Bool.{Bool, true, false, ◌&&◌, ◌||◌}
use mathlib.Core.List.{List, [], ◌++◌}
use lib.Dec.{leb}
use lib.ListN.{length, get_or, set, take, drop}
use lib.Ieee.{Float, nan, binary64, add, sub, mul, lt}
use Rattle.numbers.specs.Real.{nought, eps}
use Rattle.numbers.specs.Choice.{larger, apart}
use Rattle.numbers.specs.Lists.{over}
use Rattle.epsdelta_theory.specs.Jumps.{jumps_of}
use Rattle.chain_theory.specs.Columns.{ChainColumns, row_targets, row_rates, reads_row}
use Rattle.chain_theory.specs.Lent.{of_chain}
use Rattle.distance_theory.specs.declared.lent.StoreMut.{StoreMut}
use Rattle.distance_theory.specs.declared.lent.Task.{Task as Given}
use Rattle.distance_words.specs.declared.told.Improvement.{Improvement}
use Rattle.distance_theory.specs.Couplings.{expected, Best, point_mass}
use Rattle.distance_theory.proofs.Index.{look_up}
use Rattle.distance_theory.proofs.Held.{shares_in}
use Rattle.distance_theory.proofs.Bests.{Look, ats, parts, best_by, rows_fit}

-- ---- the cheapest coupling of states x and y, none where a row can't be read or has over 32 entries

abbrev pub best_when : Bool → Best → Best
best_when true b = b
best_when false b = record { value = nought; coupling = [] }

abbrev pub best_at : Look → ChainColumns → ChainColumns → ℕ → List Float → ℕ → ℕ → Best
best_at look C D codes v x y =
    best_when ((reads_row C x && reads_row D y) && rows_fit (length (row_targets C x)) (length (row_rates C x)) (length (row_targets D y)) (length (row_rates D y)) codes)
    (best_by (point_mass (jumps_of (row_targets C x) (row_rates C x)) (jumps_of (row_targets D y) (row_rates D y))) look v (jumps_of (row_targets C x) (row_rates C x)) (jumps_of (row_targets D y) (row_rates D y)))

-- ---- a coupling of places js and masses ms for pair k

pub record Adopted : Type 0 where
  pub done : Bool
  pub lengths : List ℕ
  pub places : List ℕ
  pub masses : List Float

abbrev pub adopted : Bool → List ℕ → List ℕ → List Float → Adopted
adopted b l p m = record { done = b; lengths = l; places = p; masses = m }

-- better than the one in the store by more than 1e-12
abbrev pub gains : Float → List Float → ℕ → List ℕ → List ℕ → List ℕ → List Float → Bool
gains x v k s l p m = lt x (sub binary64 (expected v (shares_in p m (get_or s k 0) (get_or s k 0 + get_or l k 0))) eps)

abbrev pub room_for : ℕ → ℕ → ℕ → Bool
room_for n p m = leb n p && leb n m

abbrev pub adopt_if : Bool → ℕ → ℕ → List ℕ → List Float → List ℕ → List ℕ → List Float → Adopted
adopt_if true k a js ms l p m = adopted true (set l k (length js)) (take a p ++ over js (drop a p)) (take a m ++ over ms (drop a m))
adopt_if false k a js ms l p m = adopted false l p m

abbrev pub adopt : Float → List ℕ → List Float → List Float → ℕ → List ℕ → List ℕ → List ℕ → List Float → Adopted
adopt x js ms v k s l p m = adopt_if (gains x v k s l p m && room_for (get_or s k 0 + length js) (length p) (length m)) k (get_or s k 0) js ms l p m

-- ---- all pairs

-- the most that a value is off, whether a coupling has changed, and the store then
pub record Bettered : Type 0 where
  pub residual : Float
  pub improved : Bool
  pub lengths : List ℕ
  pub places : List ℕ
  pub masses : List Float

abbrev pub bettered : Float → Bool → List ℕ → List ℕ → List Float → Bettered
bettered x t l p m = record { residual = x; improved = t; lengths = l; places = p; masses = m }

-- the pairs from k on, j of them
unfoldable pub better_from : (ℕ → Best) → List Float → Float → List Float → List ℕ → ℕ → ℕ → Float → Bool → List ℕ → List ℕ → List Float → Bettered
unfolding expected larger apart add mul sub lt
better_from best v γ cost s zero k x t l p m = bettered x t l p m
better_from best v γ cost s (suc j) k x t l p m =
    let b = best k in
    let r = adopt b.value (ats b.coupling) (parts b.coupling) v k s l p m in
    better_from best v γ cost s j (suc k) (larger x (apart (add binary64 (get_or cost k nan) (mul binary64 γ b.value)) (get_or v k nan))) (r.done || t) r.lengths r.places r.masses

-- pair k has the states lefts[k] and rights[k]
abbrev pub best_of_pair : List ℕ → List ℕ → List ℕ → ChainColumns → ChainColumns → List Float → ℕ → Best
best_of_pair lefts rights codes C D v k = best_at (look_up codes) C D (length codes) v (get_or lefts k 0) (get_or rights k 0)

-- an entry for each of n pairs
abbrev pub counted : ℕ → ℕ → ℕ → ℕ → ℕ → ℕ → ℕ → Bool
counted n lefts rights values cost starts lengths = leb n lefts && (leb n rights && (leb n values && (leb n cost && (leb n starts && leb n lengths))))

abbrev pub better_if : Bool → Bettered → List ℕ → List ℕ → List Float → Bettered
better_if true r l p m = r
better_if false r l p m = bettered nought false l p m

-- the first n pairs
abbrev pub improve : ℕ → List ℕ → List ℕ → List ℕ → ChainColumns → ChainColumns → List Float → List Float → Float → List ℕ → List ℕ → List ℕ → List Float → Bettered
improve n lefts rights codes C D v cost γ s l p m =
    better_if (counted n (length lefts) (length rights) (length v) (length cost) (length s) (length l)) (better_from (best_of_pair lefts rights codes C D v) v γ cost s n 0 nought false l p m) l p m

-- ---- the same of a task's pairs, in the lists that are lent, where the couplings start at s

abbrev pub adopted_as : Bool → StoreMut → Adopted
adopted_as b S = adopted b S.lengths.now S.places.now S.masses.now

abbrev pub adopt_in : Float → List ℕ → List Float → List Float → ℕ → List ℕ → StoreMut → Adopted
adopt_in x js ms v k s S = adopt x js ms v k s S.lengths.now S.places.now S.masses.now

abbrev pub bettered_as : Improvement → StoreMut → Bettered
bettered_as r S = bettered r.residual r.improved S.lengths.now S.places.now S.masses.now

abbrev pub best_in : Given → List Float → ℕ → Best
best_in T v k = best_of_pair T.pairs.lefts.now T.pairs.rights.now T.pairs.codes.now (of_chain T.left) (of_chain T.right) v k

abbrev pub improve_in : Given → List Float → List ℕ → StoreMut → Bettered
improve_in T v s S = improve (length v) T.pairs.lefts.now T.pairs.rights.now T.pairs.codes.now (of_chain T.left) (of_chain T.right) v T.cost.now T.gamma s S.lengths.now S.places.now S.masses.now
