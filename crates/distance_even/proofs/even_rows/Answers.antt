-- By the number of entries of each row.
use mathlib.Core.Path.{◌∙◌}
use mathlib.Core.Logic.{inl, inr}
use Rattle.distance_even.proofs.Evens.{one_entry, several}
use Rattle.distance_even.proofs.even_rows.Goals as goal
use Rattle.distance_even.proofs.even_rows.Goals.{then-ps-eq1-via-then-ps-eq1, then-ps-eq1-via-else-ps-eq1+then-qs-eq1}

pub returns-then-ps-eq1 : goal.returns-then-ps-eq1
returns-then-ps-eq1 c = one_entry c.args.ps.now c.args.qs.now (elim c.then-ps-eq1.branch [ then-ps-eq1-via-then-ps-eq1 w ↦ inl w.if-ps-eq1.true | then-ps-eq1-via-else-ps-eq1+then-qs-eq1 w ↦ inr (w.if-ps-eq1.false, w.if-qs-eq1.true) ])

pub returns : goal.returns
returns c = several c.args.ps.now c.args.qs.now c.if-ps-eq1.false c.if-qs-eq1.false c.value-left.result c.value-right.result c.fitted_total-total.result c.larger.result c.apart.result (c.value-left.ensures ∙ c.sum.ensures) (c.value-right.ensures ∙ c.sum-2.ensures) c.fitted_total-total.ensures c.larger.ensures c.apart.ensures
