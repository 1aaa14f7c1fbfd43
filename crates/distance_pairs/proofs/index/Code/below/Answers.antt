-- The sign of the difference of the keys.
use mathlib.Core.Path.{ap, ◌∙◌}
use Prim.Native.Nat.{ℕ, ◌+◌, ◌-◌, ◌/◌}
use native.Mathlib.Omega.{arith}
use Rattle.distance_theory.proofs.Index.{below_sign}
use Rattle.distance_pairs.proofs.index.Code.below.Goals as goal

pub returns : goal.returns
returns c = (ap (λ (n : ℕ). (c.args.key + 9223372036854775807 - n) / 9223372036854775808) c.key.ensures ∙ below_sign c.args.self.0 c.args.key (omega arith) c.requires, (let e = c.key.ensures in omega arith))
