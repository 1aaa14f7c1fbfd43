use Rattle.std.proofs.Common.{rules, ◌≡◌, length, arith, List, ℕ}
use mathlib.Core.Logic.{inl, inr}
use mathlib.Core.Path.{ap, subst, subst⁻¹}
use borrow.Author.Tests.{eq-eqb, ne_eqb}
use Rattle.flow_theory.proofs.LevelRows.{Scannable, Scanned}
use Rattle.flow_theory.proofs.Scanning.{turn_then, turn_else, ended, level_fits, queue_fits}
use Rattle.flow_core.specs.declared.levels.Queue.{Queue}
use Rattle.flow_core.proofs.levels.scan.Goals as goal
use Rattle.flow_core.proofs.levels.scan.Goals.{After-leaving-link-items, then-caps-e+then-level-v, else-caps-e, else-caps-e-via-then-caps-e+else-level-v, else-caps-e-via-else-caps-e}

scannable : (c : After-leaving-link-items) → Scannable c.args.net.now.heads.now c.leaving-link-items.result.now c.args.caps.now c.args.u c.args.level.now c.args.queue.now.nodes c.args.queue.now.end
scannable c = subst⁻¹ (λ (r : List ℕ). Scannable c.args.net.now.heads.now r c.args.caps.now c.args.u c.args.level.now c.args.queue.now.nodes c.args.queue.now.end) c.leaving-link-items.ensures c.requires

pub overflow_add-level : goal.overflow_add-level
overflow_add-level c = record { fits = level_fits (scannable (goal.at.overflow_add-level c).After-leaving-link-items) c.loop-link.invariant }

pub bounds-queue-end : goal.bounds-queue-end
bounds-queue-end c =
    let size : length c.loop-link.queue.nodes ≡ 66 = search rules in
    let room = queue_fits (scannable (goal.at.bounds-queue-end c).After-leaving-link-items) c.loop-link.invariant c.loop-link-test.true (eq-eqb _ _ c.if-level-v.true) in
    omega arith

pub loop-link-preserved : goal.loop-link-preserved
loop-link-preserved c =
    let S = scannable (goal.at.loop-link-preserved c).After-leaving-link-items in
    elim c.if-caps-e.branch [
      | then-caps-e+then-level-v w ↦ turn_then S c.loop-link.invariant c.loop-link-test.true w.if-caps-e.true (eq-eqb _ _ w.if-level-v.true) _ _ _ w.level-is (ap (λ (q : Queue). q.nodes) w.queue-is) w.end-is
      | else-caps-e w ↦ turn_else S c.loop-link.invariant c.loop-link-test.true (elim w.else-caps-e.branch [ else-caps-e-via-then-caps-e+else-level-v w' ↦ inr (ne_eqb _ _ w'.if-level-v.false) | else-caps-e-via-else-caps-e w' ↦ inl w'.if-caps-e.false ]) _ _ _ w.level-is (ap (λ (q : Queue). q.nodes) w.queue-is) w.end-is
    ]

pub returns : goal.returns
returns c =
    let a = c.args in
    let E = ended (scannable (goal.at.returns c).After-leaving-link-items) c.loop-link.invariant c.loop-link-test.false in
    subst (λ (r : List ℕ). Scanned a.net.now.heads.now r a.caps.now a.u a.level.now a.queue.now.nodes c.loop-link.level c.loop-link.queue.nodes a.queue.now.end c.loop-link.end) c.leaving-link-items.ensures E
