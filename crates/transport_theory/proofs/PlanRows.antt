-- Words of private contracts: the plan as it is written into three columns.
use mathlib.Core.Path.{◌≡◌}
use Prim.Native.Nat.{ℕ, ◌+◌, ◌*◌, ◌≤◌, ◌<◌}
use mathlib.Core.List.{List, map}
use lib.ListN.{length}
use lib.Ieee.{Float}
use Rattle.numbers.specs.Lists.{over}
use Rattle.flow_theory.specs.Network.{rev}
use Rattle.transport_theory.specs.Transport.{Cell}

-- capacities and costs of count cells of n columns, and room for them
pub record Plannable (c : List Float) (first m n : ℕ) (costs : List Float) (rows columns : List ℕ) (masses : List Float) : Type 0 where
  pub few_m : m ≤ 32
  pub few_n : n ≤ 32
  pub first_few : first ≤ 128
  pub caps_in : (k : ℕ) → k < m * n → rev (first + 2 * k) < length c
  pub costs_in : m * n ≤ length costs
  pub rows_room : m * n ≤ length rows
  pub columns_room : m * n ≤ length columns
  pub masses_room : m * n ≤ length masses

-- the plan over the front of the columns, its cells and what they cost
pub record Planned (p : List Cell) (total : Float) (rows columns : List ℕ) (masses : List Float) (x : Float) (t : ℕ) (rows' columns' : List ℕ) (masses' : List Float) : Type 0 where
  pub total_is : x ≡ total
  pub cells_is : t ≡ length p
  pub rows_is : rows' ≡ over (map (λ (c : Cell). c.row) p) rows
  pub columns_is : columns' ≡ over (map (λ (c : Cell). c.column) p) columns
  pub masses_is : masses' ≡ over (map (λ (c : Cell). c.mass) p) masses
