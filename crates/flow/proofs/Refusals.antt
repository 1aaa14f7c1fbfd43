-- A refusal leaves the network as it was.
use mathlib.Core.Path.{◌≡◌, ap, refl}
use Prim.Native.Nat.{ℕ}
use mathlib.Core.Bool.{Bool, true, false}
use mathlib.Core.List.{List}
use lib.Dec.{leb}
use Rattle.std.specs.Prelude.{Err}
use Rattle.flow_check.specs.Refusal.{accepts}
use Rattle.flow.specs.Network.{heads_of, caps_of, costs_of, with_links, ends, flow_if, flow_through}
use Rattle.flow.specs.declared.network.Link.{Link}
use Rattle.flow.specs.declared.network.FlowNetwork.{FlowNetwork}
use Rattle.flow.proofs.Packing.{caps_back}

pub refusal_keeps : (N : FlowNetwork) (s t : ℕ) → accepts (heads_of N.count N.links) (caps_of N.count N.links) (costs_of N.count N.links) N.starts N.list N.nodes s t ≡ false
    → flow_through N s t ≡ ends (Err 15) N
refusal_keeps N s t A = pick (leb N.count 2176)
  where
    pick : (b : Bool) → flow_if b N s t ≡ ends (Err 15) N
    pick true = rw A (ap (λ (ls : List Link). ends (Err 15) (with_links N ls)) (caps_back N.links N.count))
    pick false = refl
