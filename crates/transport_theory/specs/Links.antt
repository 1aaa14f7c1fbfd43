-- The network of `transport` (document 01, flow.rs): a node per mass of a, one per mass of b, a source and a sink.
use Rattle.std.specs.Prelude.{ℕ, suc, ◌+◌, ◌*◌, ◌/◌, ◌%◌, false, List, [], ◌∷◌, ◌++◌, length, take, Float}
use Rattle.std.specs.Float.{inf}
use Rattle.std.specs.Float.Ieee.{neg}
use Rattle.numbers.specs.Real.{nought}
use Rattle.flow_theory.specs.Network.{Net}
use Rattle.flow_theory.specs.Rows.{network}

-- an added link: the nodes where it starts and ends, its capacity and its cost
pub record Link : Type 0 where
  pub from : ℕ
  pub to : ℕ
  pub cap : Float
  pub cost : Float

-- from the source to each mass of a, nodes from i on
unfoldable pub supplies : ℕ → ℕ → List Float → List Link
supplies source i [] = []
supplies source i (x ∷ a) = record { from = source; to = i; cap = x; cost = nought } ∷ supplies source (suc i) a

-- from each mass of b, nodes from j on, to the sink
unfoldable pub demands : ℕ → ℕ → List Float → List Link
demands sink j [] = []
demands sink j (x ∷ b) = record { from = j; to = sink; cap = x; cost = nought } ∷ demands sink (suc j) b

-- from each of m masses to each of n: cell k is in row k / n and column k % n
unfoldable pub crossings : ℕ → ℕ → ℕ → List Float → List Link
crossings m n k [] = []
crossings m n k (p ∷ ps) = record { from = k / n; to = m + k % n; cap = inf false; cost = p } ∷ crossings m n (suc k) ps

-- the costs of m × n cells, in row order
abbrev pub cells : ℕ → ℕ → List Float → List Float
cells m n costs = take (m * n) costs

-- the added links in order, for masses a and b: nodes 0 and on are those of a, then those of b, then source and sink
unfoldable pub links : List Float → List Float → List Float → List Link
unfolding supplies demands crossings
links a b costs = let m = length a in let n = length b in supplies (m + n) 0 a ++ (demands (suc (m + n)) m b ++ crossings m n 0 (cells m n costs))

-- the head of each link, and of its reverse after it
unfoldable pub heads : List Link → List ℕ
heads [] = []
heads (l ∷ ls) = l.to ∷ l.from ∷ heads ls

-- the capacity of each link, and of its reverse, 0, after it
unfoldable pub caps : List Link → List Float
caps [] = []
caps (l ∷ ls) = l.cap ∷ nought ∷ caps ls

-- the cost of each link, and of its reverse, negated, after it
unfoldable pub prices : List Link → List Float
unfolding neg
prices [] = []
prices (l ∷ ls) = l.cost ∷ neg l.cost ∷ prices ls

-- what a run does not change: the network, and a cost per link
pub record Roads : Type 0 where
  pub net : Net
  pub cost : List Float

abbrev pub roads : List Float → List Float → List Float → Roads
roads a b costs =
    let s = length a + length b in
    let ls = links a b costs in
    record { net = network (heads ls) (s + 2) s (suc s); cost = prices ls }
