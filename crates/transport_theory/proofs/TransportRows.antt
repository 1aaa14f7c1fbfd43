-- Words of private contracts: the whole of `transport` over rows.
use mathlib.Core.Path.{◌≡◌}
use Prim.Native.Nat.{ℕ, ◌+◌, ◌*◌, ◌≤◌}
use mathlib.Core.List.{List}
use lib.ListN.{length, take}
use lib.Ieee.{Float}
use Rattle.numbers.specs.Real.{sum}
use Rattle.numbers.specs.Choice.{smaller}
use Rattle.flow_theory.proofs.ListRows.{Indexable}
use Rattle.transport_theory.specs.Links.{links, heads, caps, prices}
use Rattle.transport_theory.specs.Transport.{Shipment, rounds, round_cap, crumbs, plan, bills, transport}
use Rattle.transport_theory.proofs.RoundRows.{row_roads, shipment}
use Rattle.transport_theory.proofs.PlanRows.{Plannable, Planned}

-- links between the nodes of masses a and b, with capacities and costs, and room for the node lists
pub record Linked (a b : List Float) (H : List ℕ) (c p : List Float) (list : List ℕ) : Type 0 where
  pub few_a : length a ≤ 32
  pub few_b : length b ≤ 32
  pub index : Indexable H (length a + length b + 2)
  pub caps_size : length c ≡ length H
  pub prices_size : length p ≡ length H
  pub room : length H ≤ length list

-- the rounds on such links
abbrev pub shipped_rows : List Float → List Float → List ℕ → List Float → List Float → Shipment
shipped_rows a b H c p =
    let s = length a + length b in
    rounds (row_roads H p (s + 2) s (s + 1)) (crumbs (sum a)) (round_cap (length a) (length b)) (shipment c (smaller (sum a) (sum b)) 0)

-- at most 32 masses on a side, a cost for each cell, and room for each in the plan
pub record Roomy (a b costs : List Float) (rows columns : List ℕ) (masses : List Float) : Type 0 where
  pub few_a : length a ≤ 32
  pub few_b : length b ≤ 32
  pub enough : length a * length b ≤ length costs
  pub rows_room : length a * length b ≤ length rows
  pub columns_room : length a * length b ≤ length columns
  pub masses_room : length a * length b ≤ length masses

-- the links of masses a and b in rows
pub record Carried (a b costs : List Float) (H : List ℕ) (c p : List Float) (list rows columns : List ℕ) (masses : List Float) : Type 0 where
  pub base : Roomy a b costs rows columns masses
  pub heads_is : H ≡ heads (links a b costs)
  pub caps_is : c ≡ caps (links a b costs)
  pub prices_is : p ≡ prices (links a b costs)
  pub room : length H ≤ length list

-- rows with room for them
pub record Loadable (a b costs : List Float) (h : List ℕ) (c p : List Float) (list rows columns : List ℕ) (masses : List Float) : Type 0 where
  pub base : Roomy a b costs rows columns masses
  pub heads_room : 2 * (length a + length b + length a * length b) ≤ length h
  pub caps_room : 2 * (length a + length b + length a * length b) ≤ length c
  pub prices_room : 2 * (length a + length b + length a * length b) ≤ length p
  pub list_room : 2 * (length a + length b + length a * length b) ≤ length list

-- capacities of the links of masses a and b, and room for the plan
abbrev pub Readied : List Float → List Float → List Float → List Float → List ℕ → List ℕ → List Float → Type 0
Readied a b costs c rows columns masses = Plannable c (2 * (length a + length b)) (length a) (length b) costs rows columns masses

-- the plan of such capacities over the front of the columns
abbrev pub Spelled : List Float → List Float → List Float → List Float → List ℕ → List ℕ → List Float → Float → ℕ → List ℕ → List ℕ → List Float → Type 0
Spelled a b costs c rows columns masses x t rows' columns' masses' =
    let first = 2 * (length a + length b) in let cells = length a * length b in
    Planned (plan (length b) first c cells 0) (sum (bills first c (take cells costs) 0)) rows columns masses x t rows' columns' masses'

-- the definition's plan over the front of the columns
abbrev pub Transported : List Float → List Float → List Float → List ℕ → List ℕ → List Float → Float → ℕ → List ℕ → List ℕ → List Float → Type 0
Transported a b costs rows columns masses x t rows' columns' masses' = Planned (transport a b costs).plan (transport a b costs).total rows columns masses x t rows' columns' masses'
