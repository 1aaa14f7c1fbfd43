-- By the cases of the checks, in their order.
use mathlib.Core.Path.{sym, ◌∙◌}
use Rattle.numbers.proofs.Refuses.{check_hit, check_skip}
use Rattle.bisim_checks.specs.Sides.{rest_refusal}
use Rattle.bisim_checks.proofs.rest.rest_refusal.Goals as goal

pub returns-then-discount_outside : goal.returns-then-discount_outside
unfolding rest_refusal
returns-then-discount_outside c = sym (check_skip 7 _ _ _ (sym c.short.ensures ∙ c.if-short.false) (check_hit 11 _ _ (sym c.discount_outside.ensures ∙ c.if-discount_outside.true)))

pub returns-then-excessive : goal.returns-then-excessive
unfolding rest_refusal
returns-then-excessive c = sym (check_skip 7 _ _ _ (sym c.short.ensures ∙ c.if-short.false) (check_skip 11 _ _ _ (sym c.discount_outside.ensures ∙ c.if-discount_outside.false) (check_hit 14 _ _ (sym c.excessive.ensures ∙ c.if-excessive.true))))
