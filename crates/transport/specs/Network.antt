-- What a network that is lent for the transport of masses holds afterwards.
use Rattle.std.specs.Prelude.{ℕ, zero, suc, ◌+◌, List, [], ◌∷◌, length, replicate, Float}
use Rattle.numbers.specs.Real.{nought}
use Rattle.numbers.specs.Lists.{over}
use Rattle.flow_theory.specs.Rows.{starts_of, list_of}
use Rattle.flow.specs.declared.network.Link.{Link}
use Rattle.flow.specs.declared.network.FlowNetwork.{FlowNetwork}
use Rattle.flow.specs.Network.{bare}
use Rattle.transport_theory.specs.declared.Masses.{Masses}
use Rattle.transport_theory.specs.Links.{links, heads, prices}
use Rattle.transport_theory.specs.Transport.{shipped}
use Rattle.transport.specs.declared.bench.Bench.{Bench}

-- links of these heads, capacities and costs
unfoldable pub entries : List ℕ → List Float → List Float → List Link
entries (h ∷ H) (x ∷ c) (y ∷ p) = record { head = h; cap = x; cost = y } ∷ entries H c p
entries [] c p = []
entries (h ∷ H) [] p = []
entries (h ∷ H) (x ∷ c) [] = []

-- the network of so many nodes with those links in use; its node lists are as they were
abbrev pub stored : FlowNetwork → List ℕ → List Float → List Float → ℕ → FlowNetwork
stored N H c p nodes = record { links = over (entries H c p) N.links; count = length H; nodes = nodes; starts = N.starts; list = N.list }

-- the links of masses a and b in use, with the capacities that the rounds leave, and their node lists; entries past their ends keep their contents
abbrev pub network_on : List Float → List Float → List Float → FlowNetwork → FlowNetwork
network_on a b costs N =
    let ls = links a b costs in
    let n = length a + length b + 2 in
    record { links = over (entries (heads ls) (shipped a b costs).cap (prices ls)) N.links; count = length (heads ls); nodes = n; starts = over (starts_of (heads ls) n) N.starts; list = over (list_of (heads ls) n) N.list }

abbrev pub network_of : Masses → FlowNetwork → FlowNetwork
network_of M N = network_on M.left.now M.right.now M.costs.now N

-- the same where nothing is refused; a refusal leaves the network as it was
abbrev pub network_after : ℕ → Masses → FlowNetwork → FlowNetwork
network_after zero M N = network_of M N
network_after (suc r) M N = N

-- work space whose numbers are all 0
abbrev pub clear : Bench
clear = record { net = bare 0; heads = replicate 2176 0; caps = replicate 2176 nought; prices = replicate 2176 nought }
