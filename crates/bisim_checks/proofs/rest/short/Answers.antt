-- All three lists are long, or not; then the records.
use Rattle.std.proofs.Common.{refl, sym, ap, ◌∙◌}
use mathlib.Core.Bool.{not}
use Rattle.numbers.proofs.Refuses.{hit, skip}
use Rattle.bisim_checks.proofs.rest.short.Goals as goal

pub returns-then-not-long : goal.returns-then-not-long
returns-then-not-long c = ap not c.if-not-long.true ∙ hit _ _ (sym (ap not (sym c.long.ensures ∙ c.if-not-long.true)))

pub returns-else-not-long : goal.returns-else-not-long
returns-else-not-long c = skip _ _ _ (ap not (sym c.long.ensures ∙ c.if-not-long.false)) refl
