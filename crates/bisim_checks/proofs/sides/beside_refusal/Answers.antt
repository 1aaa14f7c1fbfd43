-- By the cases of the checks, in their order.
use mathlib.Core.Path.{sym, ap, ◌∙◌}
use mathlib.Core.Bool.{not}
use Rattle.numbers.proofs.Refuses.{check_hit, check_skip}
use Rattle.bisim_checks.proofs.sides.beside_refusal.Goals as goal

pub returns-then-is_none : goal.returns-then-is_none
returns-then-is_none c = sym (check_skip 7 _ _ _ (sym c.cramped.ensures ∙ c.if-cramped.false) (check_hit 8 _ _ (ap not (c.is_none.ensures ∙ ap not c.if-is_none.true))))
