-- `network::FlowNetwork::keep_caps` meets its contract: at turn j the first j links have the capacities of the row (Running.Keeping).
use Rattle.flow.proofs.Running.{Keeping}
use Rattle.flow.proofs.network.FlowNetwork.keep_caps.Given as goal

abbrev pub invariant-loop-j : goal.invariant-loop-j
invariant-loop-j l = Keeping l.initial.self l.cap-items l.self l.j
