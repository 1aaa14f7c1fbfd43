-- The flow test from s to t against a relation: `flow_ok` of epsdelta.rs.
use Rattle.std.specs.Prelude.{ℕ, suc, ◌+◌, Bool, true, false, List, [], ◌∷◌, ◌++◌, length, Float}
use Rattle.std.specs.Float.{inf, binary64}
use Rattle.std.specs.Float.Ieee.{le, sub}
use Rattle.numbers.specs.Real.{nought, one, slack}
use Rattle.flow_theory.specs.Network.{Net, node_lists}
use Rattle.flow_theory.specs.Rows.{network}
use Rattle.flow_theory.specs.Run.{FlowRun, max_flow}
use Rattle.epsdelta_theory.specs.Jumps.{Jump, Jumps, prob}
use Rattle.epsdelta_theory.specs.Relation.{holds}

-- an added link: the nodes where it starts and ends, and its capacity
pub record Link : Type 0 where
  pub from : ℕ
  pub to : ℕ
  pub cap : Float

-- from the source to each target of s, nodes from i on, with the jump's divided rate as capacity
unfoldable pub source_links : ℕ → ℕ → List Jump → List Link
source_links source i [] = []
source_links source i (j ∷ js) = record { from = source; to = i; cap = j.rate } ∷ source_links source (suc i) js

-- from each target of t, nodes from i on, to the sink
unfoldable pub sink_links : ℕ → ℕ → List Jump → List Link
sink_links sink i [] = []
sink_links sink i (j ∷ js) = record { from = i; to = sink; cap = j.rate } ∷ sink_links sink (suc i) js

-- an infinite capacity from node i to node k, if their targets are related
unfoldable pub link_if : Bool → ℕ → ℕ → List Link → List Link
link_if true i k ls = record { from = i; to = k; cap = inf false } ∷ ls
link_if false i k ls = ls

-- from the target u of s, node i, to each target of t that the relation of n states holds with it: nodes from k on
unfoldable pub cross_links : ℕ → List Bool → ℕ → ℕ → ℕ → List Jump → List Link
unfolding link_if holds
cross_links n R u i k [] = []
cross_links n R u i k (j ∷ js) = link_if (holds n R u j.target) i k (cross_links n R u i (suc k) js)

-- from each target of s, nodes from i on
unfoldable pub all_cross_links : ℕ → List Bool → ℕ → ℕ → List Jump → List Jump → List Link
unfolding cross_links
all_cross_links n R i k [] pt = []
all_cross_links n R i k (j ∷ js) pt = cross_links n R j.target i k pt ++ all_cross_links n R (suc i) k js pt

-- the added links in order, for jumps ps of s and pt of t: nodes 0 and on are the targets of s, then those of t, then source and sink
unfoldable pub links_of : ℕ → List Bool → List Jump → List Jump → List Link
unfolding source_links sink_links all_cross_links
links_of n R ps pt = let a = length ps in let b = length pt in source_links (a + b) 0 ps ++ (sink_links (suc (a + b)) a pt ++ all_cross_links n R 0 a ps pt)

-- the head of each link, and of its reverse after it
unfoldable pub heads : List Link → List ℕ
heads [] = []
heads (l ∷ ls) = l.to ∷ l.from ∷ heads ls

-- the capacity of each link, and of its reverse, 0, after it
unfoldable pub caps : List Link → List Float
caps [] = []
caps (l ∷ ls) = l.cap ∷ nought ∷ caps ls

-- the network of these links: a source, a node per target of s, one per target of t, and a sink; its node lists are those that adding the links in order gives
abbrev pub network_between : ℕ → List Bool → List Jump → List Jump → Net
network_between n R ps pt = let source = length ps + length pt in network (heads (links_of n R ps pt)) (source + 2) source (suc source)

-- `max_flow` on it
abbrev pub run_between : ℕ → List Bool → List Jump → List Jump → FlowRun
run_between n R ps pt = max_flow (network_between n R ps pt) (caps (links_of n R ps pt))

-- the links that the test adds: E counts these
unfoldable pub test_links : Jumps → List Bool → ℕ → ℕ → List Link
unfolding links_of prob
test_links J R s t = links_of (length J) R (prob J s) (prob J t)

-- its nodes, V in number: a source, a node per jump target of s, one per jump target of t, and a sink
unfoldable pub test_nodes : Jumps → ℕ → ℕ → ℕ
unfolding prob
test_nodes J s t = length (prob J s) + length (prob J t) + 2

-- the network of the test
unfoldable pub test_network : Jumps → List Bool → ℕ → ℕ → Net
unfolding links_of heads prob node_lists
test_network J R s t = network_between (length J) R (prob J s) (prob J t)

-- the run on it
unfoldable pub test_run : Jumps → List Bool → ℕ → ℕ → FlowRun
unfolding links_of heads caps prob node_lists max_flow
test_run J R s t = run_between (length J) R (prob J s) (prob J t)

-- (1 - ε) - 1e-9
unfoldable pub needed : Float → Float
unfolding sub
needed ε = sub binary64 (sub binary64 one ε) slack

-- is the flow at least 1 - ε - 1e-9
unfoldable pub flow_ok : Jumps → List Bool → ℕ → ℕ → Float → Bool
unfolding test_run needed le
flow_ok J R s t ε = le (needed ε) (test_run J R s t).total
