-- `reach::verdict` meets its contract: rows that do not fit, and what is known without a network (Beginning).
use mathlib.Core.Path.{sym, ◌∙◌}
use Rattle.flow_direct.proofs.Beginning.{known_test}
use Rattle.flow_direct.proofs.reach.verdict.Goals as goal

pub returns : goal.returns
returns c = known_test c.args.test.now (sym c.fits.ensures ∙ c.if-not-fits.false) c.args.need _ c.reach.ensures
