-- M3 and M4 of document 01 through the check and the answer, run by computation: what is proved of accepted networks says something.
use mathlib.Core.Path.{◌≡◌, refl}
use mathlib.Core.Bool.{false}
use mathlib.Core.List.{List, [], ◌∷◌}
use Rattle.std.specs.Prelude.{Ok, Err}
use lib.IntN.{pos, negsuc}
use lib.Ieee.{Float, fin, inf, le, lt, eq, neg, of_bits}
use Rattle.numbers.specs.Real.{eps}
use Rattle.flow_theory.specs.Network.{node_lists}
use Rattle.flow_theory.specs.Run.{max_flow}
use Rattle.flow_theory.specs.Rows.{degrees, sums, joined}
use Rattle.numbers.specs.Lists.{every}
use Rattle.flow_core.specs.Outcome.{flow_on}

abbrev none : Float
none = fin false 0 (pos 0)

-- capacities 0.75, then 0.5: source 0, middle 1, sink 2
abbrev caps : List Float
caps = fin false 3 (negsuc 1) ∷ none ∷ fin false 1 (negsuc 0) ∷ none ∷ []

abbrev free : List Float
free = none ∷ none ∷ none ∷ none ∷ []

m3 : (flow_on (1 ∷ 0 ∷ 2 ∷ 1 ∷ []) caps free (0 ∷ 1 ∷ 3 ∷ 4 ∷ []) (0 ∷ 1 ∷ 2 ∷ 3 ∷ []) 3 0 2).answer ≡ Ok (record { flow = fin false 1 (negsuc 0); phases = 1; pushes = 1 })
unfolding max_flow node_lists degrees sums joined every le lt eq neg of_bits
m3 = refl

-- one link of 1e-12: flow 0
m4 : (flow_on (1 ∷ 0 ∷ []) (eps ∷ none ∷ []) (none ∷ none ∷ []) (0 ∷ 1 ∷ 2 ∷ []) (0 ∷ 1 ∷ []) 2 0 1).answer ≡ Ok (record { flow = none; phases = 0; pushes = 0 })
unfolding max_flow node_lists degrees sums joined every le lt eq neg of_bits
m4 = refl

-- an infinite capacity out of the source is turned back
infinite_out : (flow_on (1 ∷ 0 ∷ []) (inf false ∷ none ∷ []) (none ∷ none ∷ []) (0 ∷ 1 ∷ 2 ∷ []) (0 ∷ 1 ∷ []) 2 0 1).answer ≡ Err 15
unfolding max_flow node_lists degrees sums joined every le lt eq neg of_bits
infinite_out = refl

-- node lists in another order are turned back
lists_other : (flow_on (1 ∷ 0 ∷ 2 ∷ 1 ∷ []) caps free (0 ∷ 1 ∷ 3 ∷ 4 ∷ []) (0 ∷ 2 ∷ 1 ∷ 3 ∷ []) 3 0 2).answer ≡ Err 15
unfolding max_flow node_lists degrees sums joined every le lt eq neg of_bits
lists_other = refl
