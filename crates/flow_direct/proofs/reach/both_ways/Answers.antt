-- `reach::both_ways` meets its contract: plenty or not, the rest is known of both (Beginning).
use mathlib.Core.Path.{sym, ◌∙◌}
use Rattle.flow_direct.proofs.Beginning.{known_test, known_true}
use Rattle.flow_direct.proofs.reach.both_ways.Goals as goal

pub returns-in-Some : goal.returns-in-Some
returns-in-Some c = rw c.in-Some.is (known_true _ _ (known_test c.args.test.now (sym c.fits.ensures ∙ c.if-not-fits.false) c.in-Some.most _ c.reach.ensures) c.if-eq.ensures)

pub returns-in_default : goal.returns-in_default
returns-in_default c = c.each_way.ensures c.args.plenty
