-- A network of links: its heads, capacities and costs, and what `new`, `add_edge` and `max_flow` make of it.
use Rattle.std.specs.Prelude.{ℕ, ◌+◌, List, [], ◌∷◌, map, Bool, true, false, cond, ◌&&◌, leb, take, set, replicate, Result, Ok, Err, Float}
use Rattle.std.specs.Float.Ieee.{neg}
use Rattle.numbers.specs.Real.{nought}
use Rattle.numbers.specs.Lists.{over}
use Rattle.flow_theory.specs.Rows.{starts_of, list_of}
use Rattle.flow_check.specs.Refusal.{edge_fits, network_fits}
use Rattle.flow_check.specs.declared.Network.{Network}
use Rattle.flow_core.specs.Outcome.{flow_on, Claimed}
use Rattle.flow.specs.declared.network.Link.{Link}
use Rattle.flow.specs.declared.network.FlowNetwork.{FlowNetwork}
use Rattle.flow_core.specs.declared.Flow.{Flow}

-- heads, capacities and costs of the first n links
abbrev pub heads_of : ℕ → List Link → List ℕ
heads_of n ls = take n (map (λ (l : Link). l.head) ls)

abbrev pub caps_of : ℕ → List Link → List Float
caps_of n ls = take n (map (λ (l : Link). l.cap) ls)

abbrev pub costs_of : ℕ → List Link → List Float
costs_of n ls = take n (map (λ (l : Link). l.cost) ls)

-- the links with their first capacities taken from a list
unfoldable pub with_caps : List Link → List Float → List Link
with_caps ls [] = ls
with_caps [] (x ∷ xs) = []
with_caps (l ∷ ls) (x ∷ xs) = record { head = l.head; cap = x; cost = l.cost } ∷ with_caps ls xs

-- what is claimed of the run on a network
abbrev pub ClaimedOn : FlowNetwork → ℕ → ℕ → Type 0
ClaimedOn N source sink = Claimed (heads_of N.count N.links) (caps_of N.count N.links) (costs_of N.count N.links) N.starts N.list N.nodes source sink

-- the network with other links
abbrev pub with_links : FlowNetwork → List Link → FlowNetwork
with_links N ls = record { links = ls; count = N.count; nodes = N.nodes; starts = N.starts; list = N.list }

-- how a run ends: its answer, and the network that it leaves
pub record Outcome : Type 0 where
  pub answer : Result Flow ℕ
  pub network : FlowNetwork

abbrev pub ends : Result Flow ℕ → FlowNetwork → Outcome
ends a N = record { answer = a; network = N }

-- the run on a network: only the capacities of its links change; over 1,088 added links, which are two links each, are 15
abbrev pub flow_if : Bool → FlowNetwork → ℕ → ℕ → Outcome
flow_if true N source sink =
    let o = flow_on (heads_of N.count N.links) (caps_of N.count N.links) (costs_of N.count N.links) N.starts N.list N.nodes source sink in ends o.answer (with_links N (with_caps N.links o.caps))
flow_if false N source sink = ends (Err 15) N

abbrev pub flow_through : FlowNetwork → ℕ → ℕ → Outcome
flow_through N source sink = flow_if (leb N.count 2176) N source sink

-- how a run through rows ends: its answer, and the network and the rows of heads, capacities and costs that it leaves
pub record Flown : Type 0 where
  pub answer : Result Flow ℕ
  pub network : FlowNetwork
  pub heads : List ℕ
  pub caps : List Float
  pub costs : List Float

abbrev pub flown : Result Flow ℕ → FlowNetwork → List ℕ → List Float → List Float → Flown
flown a N H c p = record { answer = a; network = N; heads = H; caps = c; costs = p }

-- the run on a network whose links stand in the front of rows meanwhile, with the capacities that it leaves
abbrev pub flow_in : FlowNetwork → List ℕ → List Float → List Float → ℕ → ℕ → Flown
flow_in N H c p source sink =
    let o = flow_through N source sink in
    flown o.answer o.network (over (heads_of N.count N.links) H) (over (caps_of N.count o.network.links) c) (over (costs_of N.count N.links) p)

-- what the check and the run see of a network: heads, costs, starts and list of its links, and its nodes
pub record Seen : Type 0 where
  pub heads : List ℕ
  pub costs : List Float
  pub starts : List ℕ
  pub list : List ℕ
  pub nodes : ℕ

abbrev pub seen : Network → Seen
seen M = record { heads = M.heads.now; costs = M.costs.now; starts = M.starts.now; list = M.list.now; nodes = M.nodes }

-- of one whose heads and costs are the first of two rows
abbrev pub seen_in : FlowNetwork → List ℕ → List Float → Seen
seen_in N H p = record { heads = take N.count H; costs = take N.count p; starts = N.starts; list = N.list; nodes = N.nodes }

-- a network of n nodes without links
abbrev pub bare : ℕ → FlowNetwork
bare n = record { links = replicate 2176 (record { head = 0; cap = nought; cost = nought }); count = 0; nodes = n; starts = replicate 67 0; list = replicate 2176 0 }

-- over 66 nodes are turned back with 15
abbrev pub made : ℕ → Result FlowNetwork ℕ
made n = cond (leb n 66) (Ok (bare n)) (Err 15)

-- the same network, or one of no nodes in place of the refusal
abbrev pub made_or_empty : ℕ → FlowNetwork
made_or_empty n = cond (leb n 66) (bare n) (bare 0)

-- ---- adding a link

-- how making a network in place of another or adding a link ends: the number of the refusal, 0 if there is none, and the network that it leaves
pub record Made : Type 0 where
  pub refused : ℕ
  pub net : FlowNetwork

abbrev pub leaves : ℕ → FlowNetwork → Made
leaves r N = record { refused = r; net = N }

-- link n, and after it its reverse, which has capacity 0 and the cost negated
abbrev pub with_link : List Link → ℕ → ℕ → ℕ → Float → Float → List Link
with_link ls n from to cap cost = set (set ls n (record { head = to; cap = cap; cost = cost })) (n + 1) (record { head = from; cap = nought; cost = neg cost })

-- the network passes refusal 15, its clauses on source and sink apart
abbrev pub fits_on : FlowNetwork → Bool
fits_on N = network_fits (heads_of N.count N.links) (caps_of N.count N.links) (costs_of N.count N.links) N.starts N.list N.nodes

-- may a link be added: there are at most 1,087 added ones, which are two links each, and neither the link nor the network is refused
abbrev pub addable : FlowNetwork → ℕ → ℕ → Float → Float → Bool
addable N from to cap cost = leb N.count 2174 && (edge_fits N.nodes from to cap cost && fits_on N)

-- the network with these links, of which two are new: its node lists are those that adding the links in order gives; entries past their ends keep their contents
abbrev pub grown : FlowNetwork → List Link → FlowNetwork
grown N ls =
    let H = heads_of (N.count + 2) ls in
    record { links = ls; count = N.count + 2; nodes = N.nodes; starts = over (starts_of H N.nodes) N.starts; list = over (list_of H N.nodes) N.list }

-- the network with one more link and its reverse; a refusal, 15, leaves it as it was
abbrev pub added : FlowNetwork → ℕ → ℕ → Float → Float → Made
added N from to cap cost = cond (addable N from to cap cost) (leaves 0 (grown N (with_link N.links N.count from to cap cost))) (leaves 15 N)
