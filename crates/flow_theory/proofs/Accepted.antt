-- What the theorem asks of a network: that refusal 15 lets it pass, its costs aside, which a flow run does not read. flow_check/proofs/Accepting has it from the check itself.
use mathlib.Core.Path.{◌≡◌}
use Prim.Native.Nat.{ℕ, ◌+◌, ◌≤◌, ◌<◌}
use mathlib.Core.Logic.{◌≢◌, ◌⊎◌}
use mathlib.Core.Bool.{false}
use mathlib.Core.List.{List}
use lib.ListN.{length}
use lib.Dec.{T}
use lib.Ieee.{Float, inf, le}
use Rattle.numbers.specs.Real.{nought, greatest_weight}
use Rattle.flow_theory.specs.Network.{Net, nodes, links, head, tail, left, node_lists}

pub record Accepted (N : Net) (c : List Float) (added : ℕ) : Type 0 where
  pub few : nodes N ≤ 66
  pub small : added ≤ 1088
  pub pairs : links N ≡ added + added
  pub size : length c ≡ links N
  pub heads_in : (e : ℕ) → e < links N → head N e < nodes N
  pub source_in : N.source < nodes N
  pub sink_in : N.sink < nodes N
  pub ends : N.source ≢ N.sink
  pub range : (e : ℕ) → e < links N → T (le nought (left c e)) × (T (le (left c e) greatest_weight) ⊎ (left c e ≡ inf false))
  pub finite : (e : ℕ) → e < links N → tail N e ≡ N.source → left c e ≢ inf false
  pub lists : N.lists ≡ node_lists N.heads (nodes N) (links N)
