use mathlib.Core.Path.{refl, ap, ◌∙◌}
use Rattle.transport.specs.declared.plan.PlanRows.{PlanRows}
use Rattle.transport_theory.proofs.Plans.{plan_starts, turn, end, place_in, plan_skips, rows_in_lem, columns_in, masses_in, plan_keeps, plan_ends}
use Rattle.transport.proofs.plan.write_plan.Goals as goal
use Rattle.transport.proofs.plan.write_plan.Goals.{then-x, else-x}

pub loop-k-init : goal.loop-k-init
loop-k-init c = (plan_starts c.requires, (refl, refl, refl))

pub bounds-caps-reverse : goal.bounds-caps-reverse
bounds-caps-reverse c = place_in c.requires c.loop-k.invariant.0 (turn c.requires c.loop-k.invariant.0 c.loop-k-test.true) c.reverse.ensures

pub bounds-plan-cells : goal.bounds-plan-cells
bounds-plan-cells c = rows_in_lem c.requires c.loop-k.invariant.0 (turn c.requires c.loop-k.invariant.0 c.loop-k-test.true) c.reverse.ensures c.if-x.true

pub bounds-plan-cells-then-x : goal.bounds-plan-cells-then-x
bounds-plan-cells-then-x c = columns_in c.requires c.loop-k.invariant.0 (turn c.requires c.loop-k.invariant.0 c.loop-k-test.true) c.reverse.ensures c.if-x.true

pub bounds-plan-cells-then-x-2 : goal.bounds-plan-cells-then-x-2
bounds-plan-cells-then-x-2 c = masses_in c.requires c.loop-k.invariant.0 (turn c.requires c.loop-k.invariant.0 c.loop-k-test.true) c.reverse.ensures c.if-x.true

pub loop-k-preserved : goal.loop-k-preserved
loop-k-preserved c =
    elim c.if-x.branch [
      | then-x w ↦ (plan_keeps c.requires c.loop-k.invariant.0 (turn c.requires c.loop-k.invariant.0 c.loop-k-test.true) c.reverse.ensures w.if-x.true (ap (λ (p : PlanRows). p.rows.now) w.plan-is) (ap (λ (p : PlanRows). p.columns.now) w.plan-is) (ap (λ (p : PlanRows). p.masses.now) w.plan-is) w.total-is w.cells-is, (ap (λ (p : PlanRows). p.rows.ghost_name) w.plan-is ∙ c.loop-k.invariant.1.0, ap (λ (p : PlanRows). p.columns.ghost_name) w.plan-is ∙ c.loop-k.invariant.1.1, ap (λ (p : PlanRows). p.masses.ghost_name) w.plan-is ∙ c.loop-k.invariant.1.2))
      | else-x w ↦ (plan_skips c.requires c.loop-k.invariant.0 (turn c.requires c.loop-k.invariant.0 c.loop-k-test.true) c.reverse.ensures w.if-x.false (ap (λ (p : PlanRows). p.rows.now) w.plan-is) (ap (λ (p : PlanRows). p.columns.now) w.plan-is) (ap (λ (p : PlanRows). p.masses.now) w.plan-is) w.total-is w.cells-is, (ap (λ (p : PlanRows). p.rows.ghost_name) w.plan-is ∙ c.loop-k.invariant.1.0, ap (λ (p : PlanRows). p.columns.ghost_name) w.plan-is ∙ c.loop-k.invariant.1.1, ap (λ (p : PlanRows). p.masses.ghost_name) w.plan-is ∙ c.loop-k.invariant.1.2))
    ]

pub returns-clause-spelled : goal.returns-clause-spelled
returns-clause-spelled c = plan_ends c.requires c.loop-k.invariant.0 (end c.requires c.loop-k.invariant.0 c.loop-k-test.false)
