-- A network that is lent.
use Rattle.std.specs.Prelude.{◌≡◌, ℕ, ◌+◌, Bool, ◌&&◌, cond, List, [], length, get_or, ltb, leb, Float}
use Rattle.std.specs.List.{slice_range}
use Rattle.flow_theory.specs.Network.{Net}
use Rattle.flow_theory.specs.Rows.{network}
use Rattle.flow_check.specs.Refusal.{network_fits, accepts}
use Rattle.flow_check.specs.declared.Network.{Network}
use Rattle.flow_check.specs.declared.Ends.{Ends}
use Rattle.flow_check.specs.declared.Course.{Course}

-- as a flow run sees it
abbrev pub net_of : Network → Ends → Net
net_of N E = network N.heads.now N.nodes E.source E.sink

abbrev pub net_on : Course → Net
net_on C = net_of C.net C.ends

-- a capacity for each link
abbrev pub Capped : Network → List Float → Type 0
Capped N c = length c ≡ length N.heads.now

-- the whole check but source and sink, of capacities c
abbrev pub fits_lent : Network → List Float → Bool
fits_lent N c = network_fits N.heads.now c N.costs.now N.starts.now N.list.now N.nodes

-- the whole check
abbrev pub accepts_lent : Course → List Float → Bool
accepts_lent C c = accepts C.net.heads.now c C.net.costs.now C.net.starts.now C.net.list.now C.net.nodes C.ends.source C.ends.sink

-- the links that leave node u: its part of the list, from its start up to the next; none where there is no such node, or no such part
abbrev pub leaving : Network → ℕ → List ℕ
leaving N u =
    let from = get_or N.starts.now u 0 in
    let to = get_or N.starts.now (u + 1) 0 in
    cond (ltb u 66 && (leb from to && leb to (length N.list.now))) (slice_range N.list.now from to) []
