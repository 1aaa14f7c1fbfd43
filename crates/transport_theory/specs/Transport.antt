-- `transport` of flow.rs: successive shortest paths, with the round cap and the two early breaks; the plan, and its cost.
use Rattle.std.specs.Prelude.{ℕ, zero, suc, ◌+◌, ◌*◌, ◌/◌, ◌%◌, Bool, true, false, not, ◌&&◌, List, [], ◌∷◌, length, eqb, Float}
use Rattle.std.specs.Float.{binary64}
use Rattle.std.specs.Float.Ieee.{sub, mul, lt, le, eq}
use Rattle.numbers.specs.Real.{one, eps, sum}
use Rattle.numbers.specs.Choice.{smaller, larger}
use Rattle.flow_theory.specs.Network.{Net, nodes, left, rev, node_lists}
use Rattle.flow_theory.specs.Augment.{least, push_path}
use Rattle.transport_theory.specs.Links.{cells, links, caps, heads, prices, Roads, roads}
use Rattle.transport_theory.specs.Shortest.{infinite, far, shortest, route, ends}

-- ---- rounds

-- the capacities left, the mass that remains to be moved, and the rounds made
pub record Shipment : Type 0 where
  pub cap : List Float
  pub remaining : Float
  pub rounds : ℕ

-- a round goes on, or breaks off
pub data Turn : Type 0 where
  more : Shipment → Turn
  done : Shipment → Turn

-- a round that breaks off only counts
unfoldable pub give_up : Shipment → Turn
give_up s = done (record { cap = s.cap; remaining = s.remaining; rounds = suc s.rounds })

-- x is pushed along the path
unfoldable pub ship : Bool → Float → List ℕ → Shipment → Turn
unfolding push_path sub give_up
ship true x path s = more (record { cap = push_path x path s.cap; remaining = sub binary64 s.remaining x; rounds = suc s.rounds })
ship false x path s = give_up s

-- the sink is not reached, or it is: then the least of what remains and the capacities on the path, if the path comes from the source and that is over 1e-12
unfoldable pub move : Net → Bool → List ℕ → Shipment → Turn
unfolding route ends least ship give_up le
move N true via s = give_up s
move N false via s =
    let path = route N via (suc (nodes N)) N.sink in
    let x = least s.cap s.remaining path in
    ship (eqb (ends N via (suc (nodes N)) N.sink) N.source && not (le x eps)) x path s

unfoldable pub turn : Roads → Shipment → Turn
unfolding shortest move eq
turn R s = let t = shortest R s.cap in move R.net (infinite (far t R.net.sink)) t.via s

-- at most k rounds, while more than `much` remains
unfoldable pub rounds : Roads → Float → ℕ → Shipment → Shipment
unfolding turn lt
rounds R much zero s = s
rounds R much (suc k) s = elim (lt much s.remaining) [ false ↦ s | true ↦ elim (turn R s) [ more r ↦ rounds R much k r | done r ↦ r ] ]

-- ---- the answer

-- a cell of the plan: row i, column j, and the mass moved from a's i-th to b's j-th
pub record Cell : Type 0 where
  pub row : ℕ
  pub column : ℕ
  pub mass : Float

unfoldable pub keep : {A : Type 0} → Bool → A → List A → List A
keep true x xs = x ∷ xs
keep false x xs = xs

-- the mass of cell k: what is left of its link's reverse; `first` is the link of cell 0
unfoldable pub moved : ℕ → List Float → ℕ → Float
unfolding left rev
moved first c k = left c (rev (first + 2 * k))

-- the cells above 1e-12 in row order: j cells, cell k and on, of n columns
unfoldable pub plan : ℕ → ℕ → List Float → ℕ → ℕ → List Cell
unfolding keep moved lt
plan n first c zero k = []
plan n first c (suc j) k = let x = moved first c k in keep (lt eps x) (record { row = k / n; column = k % n; mass = x }) (plan n first c j (suc k))

-- the mass of each of these cells times its cost: the costs of cell k and on
unfoldable pub bills : ℕ → List Float → List Float → ℕ → List Float
unfolding keep moved lt mul
bills first c [] k = []
bills first c (p ∷ ps) k = let x = moved first c k in keep (lt eps x) (mul binary64 x p) (bills first c ps (suc k))

-- what a run comes to: the cost of the plan, the plan, what remains, the rounds made and the capacities left
pub record Transport : Type 0 where
  pub total : Float
  pub plan : List Cell
  pub remaining : Float
  pub rounds : ℕ
  pub cap : List Float

unfoldable pub round_cap : ℕ → ℕ → ℕ
round_cap m n = 4 * (m * n + m + n) + 16

-- 1e-12 × max(ta, 1): no round is made for less
unfoldable pub crumbs : Float → Float
unfolding mul larger
crumbs ta = mul binary64 eps (larger ta one)

-- where a run begins: what remains is the lesser total
abbrev pub loaded : List Float → List Float → List Float → Shipment
loaded a b costs = record { cap = caps (links a b costs); remaining = smaller (sum a) (sum b); rounds = 0 }

-- the state when the rounds end
unfoldable pub shipped : List Float → List Float → List Float → Shipment
unfolding heads caps prices links node_lists rounds sum smaller round_cap crumbs
shipped a b costs = rounds (roads a b costs) (crumbs (sum a)) (round_cap (length a) (length b)) (loaded a b costs)

-- the whole of `transport`
unfoldable pub transport : List Float → List Float → List Float → Transport
unfolding shipped plan bills sum
transport a b costs =
    let m = length a in let n = length b in
    let s = shipped a b costs in
    let first = 2 * (m + n) in
    record { total = sum (bills first s.cap (cells m n costs) 0); plan = plan n first s.cap (m * n) 0; remaining = s.remaining; rounds = s.rounds; cap = s.cap }
