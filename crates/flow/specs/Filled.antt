-- A network that is filled from rows of heads and capacities, and run.
use Rattle.std.specs.Prelude.{ℕ, zero, suc, ◌%◌, Bool, true, false, ◌&&◌, List, eqb, ltb, leb, length, get_or, set, take, Err, Float}
use Rattle.std.specs.Float.{nan}
use Rattle.std.specs.Float.Ieee.{neg}
use Rattle.numbers.specs.Real.{nought}
use Rattle.numbers.specs.Lists.{over, all}
use Rattle.flow_theory.specs.Rows.{starts_of, list_of}
use Rattle.flow.specs.declared.network.Link.{Link}
use Rattle.flow.specs.declared.network.FlowNetwork.{FlowNetwork}
use Rattle.flow.specs.Network.{Flown, flown, flow_in}

-- the cost of link i: 0 of an added one, its negation of the reverse after it
unfoldable pub cost_at : ℕ → Float
cost_at zero = nought
cost_at (suc i) = neg (cost_at i)

-- the first n links with these heads and capacities
unfoldable pub laid : List Link → List ℕ → List Float → ℕ → List Link
unfolding cost_at
laid ls H c zero = ls
laid ls H c (suc i) = set (laid ls H c i) i (record { head = get_or H i 0; cap = get_or c i nan; cost = cost_at i })

-- the network of so many nodes with those links in use; its node lists are as they were
abbrev pub stored : FlowNetwork → List ℕ → List Float → ℕ → ℕ → FlowNetwork
stored N H c n nodes = record { links = laid N.links H c n; count = n; nodes = nodes; starts = N.starts; list = N.list }

-- do the first n heads, with so many capacities and costs, make a network: there are n of each, at most 1,088 added links, which are two links each, and at most 66 nodes, and each head is a node
abbrev pub rows_fit : List ℕ → ℕ → ℕ → ℕ → ℕ → Bool
rows_fit H caps costs n nodes = leb n (length H) && (leb n caps && (leb n costs && (leb nodes 66 && (leb n 2176 && (eqb (n % 2) 0 && all (λ v. ltb v nodes) (take n H))))))

-- do these heads, with as many capacities and costs, make a network
abbrev pub heads_make : List ℕ → ℕ → Bool
heads_make H nodes = rows_fit H (length H) (length H) (length H) nodes

-- the network with the node lists that adding these links in order gives; entries past their ends keep their contents
abbrev pub relisted_if : Bool → FlowNetwork → List ℕ → ℕ → FlowNetwork
relisted_if true N H nodes = record { links = N.links; count = N.count; nodes = N.nodes; starts = over (starts_of H nodes) N.starts; list = over (list_of H nodes) N.list }
relisted_if false N H nodes = N

-- the network with the links of the rows
abbrev pub filled : FlowNetwork → List ℕ → List Float → ℕ → ℕ → FlowNetwork
filled N H c n nodes = stored (relisted_if true N (take n H) nodes) H c n nodes

abbrev pub filled_if : Bool → FlowNetwork → List ℕ → List Float → ℕ → ℕ → FlowNetwork
filled_if true N H c n nodes = filled N H c n nodes
filled_if false N H c n nodes = N

-- the run on the network filled from the rows, which has n links; rows that do not fit, 15, leave all as it was
abbrev pub flow_rows_if : Bool → FlowNetwork → List ℕ → List Float → List Float → ℕ → ℕ → ℕ → ℕ → Flown
flow_rows_if true N H c p n nodes source sink = flow_in (filled N H c n nodes) H c p source sink
flow_rows_if false N H c p n nodes source sink = flown (Err 15) N H c p

abbrev pub flow_rows : FlowNetwork → List ℕ → List Float → List Float → ℕ → ℕ → ℕ → ℕ → Flown
flow_rows N H c p n nodes source sink = flow_rows_if (rows_fit H (length c) (length p) n nodes) N H c p n nodes source sink
