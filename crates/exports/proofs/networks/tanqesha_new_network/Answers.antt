-- What is answered and left is what `renew` makes of the network that was there.
use mathlib.Core.Path.{ap, ◌∙◌}
use Prim.Native.Nat.{ℕ}
use Rattle.flow.specs.Network.{leaves}
use Rattle.exports.proofs.networks.tanqesha_new_network.Goals as goal

pub returns : goal.returns
returns c = ap (λ (k : ℕ). leaves k c.renew.new.net) c.code.ensures ∙ c.renew.ensures
