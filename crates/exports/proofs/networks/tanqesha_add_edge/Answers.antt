-- What is answered and left is what `add_edge` answers and leaves.
use mathlib.Core.Path.{ap, ◌∙◌}
use Prim.Native.Nat.{ℕ}
use Rattle.flow.specs.Network.{leaves}
use Rattle.exports.proofs.networks.tanqesha_add_edge.Goals as goal

pub returns : goal.returns
returns c = ap (λ (k : ℕ). leaves k c.add_edge.new.self) c.code.ensures ∙ c.add_edge.ensures
