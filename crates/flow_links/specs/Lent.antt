-- A flow test that is lent.
use Rattle.std.specs.Prelude.{ℕ, Bool, true, false, List, length, leb, ◌+◌, ◌*◌, Option, Some, None}
use Rattle.epsdelta_theory.specs.Jumps.{jumps_of}
use Rattle.epsdelta_theory.specs.Relation.{relation_of}
use Rattle.epsdelta_theory.specs.FlowTest.{Link, links_of}
use Rattle.flow_links.specs.Fits.{fits}
use Rattle.flow_links.specs.declared.rows.Test.{Test}

-- it fits
abbrev pub test_fits : Test → Bool
test_fits T = fits T.left.targets.now T.left.rates.now T.right.targets.now T.right.rates.now T.states

-- its links
abbrev pub test_links : Test → List Link
test_links T = links_of T.states (relation_of T.relation.now) (jumps_of T.left.targets.now T.left.rates.now) (jumps_of T.right.targets.now T.right.rates.now)

-- room for them in a row of so many places, if all targets are related: each link and its reverse
abbrev pub test_room : Test → ℕ → Bool
test_room T places = leb (2 * (length T.left.targets.now + length T.right.targets.now + length T.left.targets.now * length T.right.targets.now)) places

-- the places that are written, if any are
abbrev pub places_if : Bool → List ℕ → Option ℕ
places_if true written = Some (length written)
places_if false written = None
