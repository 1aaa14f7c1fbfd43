-- The two checks in their order.
use mathlib.Core.Path.{sym, ap, ◌∙◌}
use mathlib.Core.Bool.{not}
use Rattle.numbers.proofs.Refuses.{check_hit, check_skip}
use Rattle.build_theory.proofs.fault.Goals as goal

pub returns-then-outside : goal.returns-then-outside
returns-then-outside c = sym (check_hit 4 _ _ (sym c.outside.ensures ∙ c.if-outside.true))

pub returns-then-not-all_weigh : goal.returns-then-not-all_weigh
returns-then-not-all_weigh c = sym (check_skip 4 _ _ 5 (sym c.outside.ensures ∙ c.if-outside.false) (check_hit 5 _ 0 (ap not (sym c.all_weigh.ensures) ∙ (ap not c.if-not-all_weigh.true))))
