-- Refusal 15: which networks are turned back.
use Rattle.std.specs.Prelude.{ℕ, suc, ◌+◌, ◌/◌, ◌%◌, Bool, true, false, ◌&&◌, ◌||◌, not, List, eqb, ltb, leb, length, get_or, Float}
use Rattle.std.specs.Float.{inf, nan}
use Rattle.std.specs.Float.Ieee.{le, eq, neg}
use Rattle.numbers.specs.Real.{nought, greatest_weight}
use Rattle.numbers.specs.Lists.{every, all}
use Rattle.flow_theory.specs.Network.{rev}
use Rattle.flow_theory.specs.Rows.{starts_of, list_of}

-- ---- links

-- a capacity from 0 to 2^40, or infinite
abbrev pub cap_fits : Float → Bool
cap_fits c = le nought c && (le c greatest_weight || eq c (inf false))

-- a cost from 0 to 2^40
abbrev pub cost_fits : Float → Bool
cost_fits c = le nought c && le c greatest_weight

-- an added link leads from a node to a node; its capacity and its cost
abbrev pub edge_fits : ℕ → ℕ → ℕ → Float → Float → Bool
edge_fits nodes from to cap cost = ltb from nodes && (ltb to nodes && (cap_fits cap && cost_fits cost))

-- its reverse: a capacity, and the negation of its cost
abbrev pub reverse_fits : Float → Float → Float → Bool
reverse_fits cap back cost = cap_fits cap && eq back (neg cost)

-- the k-th added link and its reverse
abbrev pub pair_fits : List ℕ → List Float → List Float → ℕ → ℕ → Bool
pair_fits H c p nodes k =
    edge_fits nodes (get_or H (k + k + 1) 0) (get_or H (k + k) 0) (get_or c (k + k) nan) (get_or p (k + k) nan)
    && reverse_fits (get_or c (k + k + 1) nan) (get_or p (k + k + 1) nan) (get_or p (k + k) nan)

abbrev pub links_fit : List ℕ → List Float → List Float → ℕ → Bool
links_fit H c p nodes = every (pair_fits H c p nodes) (length H / 2)

-- ---- sizes and node lists

-- at most 66 nodes and 1,088 added links, which are two links each
abbrev pub few : ℕ → ℕ → Bool
few nodes links = leb nodes 66 && (leb links 2176 && eqb (links % 2) 0)

-- so many; and each link has a capacity and a cost, and a place in the node lists
abbrev pub sizes_fit : ℕ → ℕ → ℕ → ℕ → ℕ → Bool
sizes_fit nodes links caps costs list = few nodes links && (eqb caps links && (eqb costs links && leb links list))

-- two lists agree in their first n places
abbrev pub same_rows : ℕ → List ℕ → List ℕ → Bool
same_rows n xs ys = every (λ i. eqb (get_or xs i 0) (get_or ys i 0)) n

-- the node lists are those that adding the links in order gives
abbrev pub lists_fit : List ℕ → ℕ → List ℕ → List ℕ → Bool
lists_fit H nodes starts list = same_rows (suc nodes) starts (starts_of H nodes) && same_rows (length H) list (list_of H nodes)

-- ---- the whole check

-- all but source and sink: heads, capacities and costs of the links, where the node lists start, the node lists, how many nodes
abbrev pub network_fits : List ℕ → List Float → List Float → List ℕ → List ℕ → ℕ → Bool
network_fits H c p starts list nodes = sizes_fit nodes (length H) (length c) (length p) (length list) && (links_fit H c p nodes && lists_fit H nodes starts list)

-- not an infinite capacity that leaves the source
abbrev pub leaves_finite : ℕ → ℕ → Float → Bool
leaves_finite source tail c = not (eqb tail source && eq c (inf false))

-- no infinite capacity leaves the source
abbrev pub finite_from : List ℕ → List Float → ℕ → Bool
finite_from H c source = every (λ e. leaves_finite source (get_or H (rev e) 0) (get_or c e nan)) (length H)

-- source and sink are two nodes, and no infinite capacity leaves the source
abbrev pub ends_fit : List ℕ → List Float → ℕ → ℕ → ℕ → Bool
ends_fit H c nodes source sink = ltb source nodes && (ltb sink nodes && (not (eqb source sink) && finite_from H c source))

-- a network that is not refused
abbrev pub accepts : List ℕ → List Float → List Float → List ℕ → List ℕ → ℕ → ℕ → ℕ → Bool
accepts H c p starts list nodes source sink = network_fits H c p starts list nodes && ends_fit H c nodes source sink

-- no refusal, or 15
abbrev pub refused_unless : Bool → ℕ
refused_unless true = 0
refused_unless false = 15

-- ---- node lists that are made

-- may the lists of these links between n nodes be made over the lists s and l: there are not too many nodes or links, each head is a node, and there is room
abbrev pub listable : List ℕ → ℕ → List ℕ → List ℕ → Bool
listable H n s l = few n (length H) && (leb (length H) (length l) && (ltb n (length s) && all (λ v. ltb v n) H))
