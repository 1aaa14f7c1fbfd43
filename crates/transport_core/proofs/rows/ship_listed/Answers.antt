-- `rows::ship_listed` meets its contract: the rounds are those of `run::ship` (Sails.told-links).
use mathlib.Core.Path.{◌≡◌, subst, ◌∙◌}
use Prim.Native.Nat.{ℕ, ◌+◌, ◌*◌}
use native.Mathlib.Omega.{arith}
use lib.ListN.{length}
use lib.Ieee.{binary64, mul}
use Rattle.numbers.specs.Real.{eps}
use Rattle.transport_theory.specs.Transport.{rounds}
use Rattle.transport_theory.proofs.Places.{places_or}
use Rattle.transport_theory.proofs.RoundRows.{row_roads, shipment, Shipped}
use Rattle.transport_core.proofs.Sails.{told_links}
use Rattle.transport_core.proofs.rows.ship_listed.Goals as goal

pub returns : goal.returns
returns c =
    let M = c.args.of.now in
    let N = c.args.net.now in
    let m = length M.left.now in
    let n = length M.right.now in
    let k = m + n in
    let p = places_or m n c.requires.few.0 c.requires.few.1 c.places.result 0 c.places.ensures in
    let u = c.unwrap_or-places.ensures in
    let q : 2 * c.unwrap_or-places.result + 16 ≡ 4 * (m * n + m + n) + 16 = omega arith in
    told_links M.left.now M.right.now N.heads.now c.args.caps.now N.costs.now (c.value-ta.ensures ∙ c.sum.ensures) (c.value-tb.ensures ∙ c.sum-2.ensures) c.larger.ensures c.smaller.ensures
    (subst (λ (x : ℕ). Shipped (rounds (row_roads N.heads.now N.costs.now (m + n + 2) k (k + 1)) (mul binary64 eps c.larger.result) x (shipment c.args.caps.now c.smaller.result 0)) c.ship.result c.ship.new.caps) q
    (subst (λ (x : ℕ). Shipped (rounds (row_roads N.heads.now N.costs.now x k (k + 1)) (mul binary64 eps c.larger.result) (2 * c.unwrap_or-places.result + 16) (shipment c.args.caps.now c.smaller.result 0)) c.ship.result c.ship.new.caps) c.requires.nodes c.ship.ensures))
