-- Two rows and the codes of their pairs, as they are lent: what fits, and what is laid of them.
use mathlib.Core.Path.{◌≡◌, refl, sym}
use Prim.Native.Nat.{ℕ, ◌≤◌, ◌<◌, ◌*◌}
use mathlib.Core.Bool.{Bool, true}
use mathlib.Core.List.{List}
use lib.ListN.{length, get_or}
use lib.Ieee.{Float}
use Rattle.numbers.proofs.Bools.{and_t}
use Rattle.std.specs.Prelude.{Option}
use Rattle.distance_theory.specs.declared.lent.Best.{Best as Chosen}
use Rattle.distance_theory.specs.declared.lent.Rows.{Rows}
use Rattle.distance_theory.specs.declared.lent.SharesMut.{SharesMut}
use Rattle.distance_theory.specs.Couplings.{Share, Best}
use Rattle.distance_theory.proofs.Index.{look_up}
use Rattle.distance_theory.proofs.PairRows.{row_jumps}
use Rattle.distance_theory.proofs.Bests.{independent_by, best_by, values_by, rows_fit, fitting, Bested, bested_as, best_if, Beside, beside, cells_room}

-- rows side by side, of few entries
abbrev pub RowsBeside : Rows → Type 0
RowsBeside R = Beside R.xs.targets.now R.xs.probs.now R.ys.targets.now R.ys.probs.now (length R.codes.now)

-- room for a share of each cell
abbrev pub CellsRoom : Rows → SharesMut → Type 0
CellsRoom R S = (length R.xs.targets.now * length R.ys.targets.now ≤ length S.places.now) × (length R.xs.targets.now * length R.ys.targets.now ≤ length S.masses.now)

-- n cells of a plan: each between an entry of the one row and one of the other
abbrev pub PlanCells : Rows → List ℕ → List ℕ → ℕ → Type 0
PlanCells R rows columns n =
    (length R.codes.now ≤ 4096) × (n ≤ length rows) × (n ≤ length columns) × ((i : ℕ) → i < n → (get_or rows i 0 < length R.xs.targets.now) × (get_or columns i 0 < length R.ys.targets.now))

-- rows that fit, and room
abbrev pub rows_fitting : Rows → SharesMut → Bool
rows_fitting R S = fitting (length R.xs.targets.now) (length R.xs.probs.now) (length R.ys.targets.now) (length R.ys.probs.now) (length R.codes.now) (length S.places.now) (length S.masses.now)

-- their independent coupling, the values of its pairs, and the cheapest coupling: one alone, or by transport
abbrev pub independent_rows : Rows → List Share
independent_rows R = independent_by (look_up R.codes.now) (row_jumps R.xs) (row_jumps R.ys)

abbrev pub values_rows : Rows → List Float → List Float
values_rows R v = values_by (look_up R.codes.now) v (row_jumps R.xs) (row_jumps R.ys)

abbrev pub best_rows : Bool → Rows → List Float → Best
best_rows b R v = best_by b (look_up R.codes.now) v (row_jumps R.xs) (row_jumps R.ys)

-- what is answered, with the lists that are lent; and the cheapest coupling over their front, if they fit
abbrev pub bested_in : Option Chosen → SharesMut → Bested
bested_in r S = bested_as r S.places.now S.masses.now

abbrev pub best_over : Bool → Best → SharesMut → Bested
best_over b B S = best_if b B S.places.now S.masses.now

module _ (R : Rows) (S : SharesMut) (e : rows_fitting R S ≡ true) where
  pub fitting_beside : RowsBeside R
  fitting_beside =
      let (a, w) = and_t (rows_fit (length R.xs.targets.now) (length R.xs.probs.now) (length R.ys.targets.now) (length R.ys.probs.now) (length R.codes.now)) _ e in
      beside R.xs.targets.now R.xs.probs.now R.ys.targets.now R.ys.probs.now (length R.codes.now) true (sym a) refl

  pub fitting_room : CellsRoom R S
  fitting_room =
      let (a, w) = and_t (rows_fit (length R.xs.targets.now) (length R.xs.probs.now) (length R.ys.targets.now) (length R.ys.probs.now) (length R.codes.now)) _ e in
      cells_room (length R.xs.targets.now) (length R.ys.targets.now) (length S.places.now) (length S.masses.now) true (sym w) refl
