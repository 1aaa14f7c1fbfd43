use Rattle.std.proofs.Common.{◌≡◌, refl, sym, subst, ap, ◌∙◌, ℕ, ◌+◌, length, get_or, arith}
use lib.ListN.{set, length-set}
use Rattle.bisim_core.specs.Data.{columns_of}
use Rattle.bisim_core.specs.Ids.{distinct}
use Rattle.bisim_core.specs.Edges.{others}
use Rattle.bisim_core.specs.Model.{begins}
use Rattle.bisim_core.proofs.Models.{row_is}
use Rattle.bisim_core.proofs.RowChecks.{Counting, counting, turn_old, turn_new, all_counted, part_at, part_length}
use Rattle.bisim_core.proofs.check.count_others.Goals as goal
use Rattle.bisim_core.proofs.check.count_others.Goals.{then-marks-t, else-marks-t}

pub loop-target-init : goal.loop-target-init
loop-target-init c =
    let M = columns_of c.args.model.now in
    let z : begins M c.args.s ≡ begins M c.args.s + 0 = omega arith in
    let marks = set c.args.marks.now c.args.s (c.args.s + 1) in
    (refl, subst (λ (i : ℕ). Counting M.edge_targets (begins M c.args.s) (begins M (c.args.s + 1)) c.args.s (length marks) marks 0 i) z (counting _ _ _ _ c.args.marks.now c.requires.1 c.requires.3 c.requires.6))

pub bounds-marks-t : goal.bounds-marks-t
bounds-marks-t c =
    let (l, e) = part_at c.args.model.now.edge_targets.now _ _ _ _ _ c.edges_of.ensures.0 c.edges_of.ensures.1 c.loop-target-test.true in
    let p = c.requires.5 _ l in
    let z = c.loop-target.auto.marks ∙ length-set c.args.marks.now c.args.s (c.args.s + 1) in
    omega arith

pub loop-target-preserved : goal.loop-target-preserved
loop-target-preserved c =
    let M = columns_of c.args.model.now in
    let s = c.args.s in
    let I = c.loop-target.invariant.1 in
    let marks = c.loop-target.marks in
    let (l, e) = part_at M.edge_targets _ _ _ _ _ c.edges_of.ensures.0 c.edges_of.ensures.1 c.loop-target-test.true in
    let p = c.requires.5 _ l in
    let size = c.loop-target.auto.marks ∙ length-set c.args.marks.now s (s + 1) in
    let z : begins M s + c.loop-target.target-index + 1 ≡ begins M s + (c.loop-target.target-index + 1) = omega arith in (
      refl,
      subst (λ (i : ℕ). Counting M.edge_targets (begins M s) (begins M (s + 1)) s (length (set c.args.marks.now s (s + 1))) c.if-marks-t.marks c.if-marks-t.count i) z (elim c.if-marks-t.branch [
        | then-marks-t w ↦ turn_new I l (omega arith) (λ q. w.if-marks-t.true (ap (λ (x : ℕ). get_or marks x 0) e ∙ q)) _ _ (w.marks-is ∙ ap (λ (x : ℕ). set marks x (s + 1)) e) w.count-is
        | else-marks-t w ↦ turn_old I l (sym (ap (λ (x : ℕ). get_or marks x 0) e) ∙ w.if-marks-t.false) _ _ w.marks-is w.count-is
      ]),
    )

pub shape_of-marks : goal.shape_of-marks
shape_of-marks c = let a = c.args in c.loop-target.invariant.1.size ∙ length-set a.marks.now a.s (a.s + 1)

pub returns : goal.returns
returns c =
    let M = columns_of c.args.model.now in
    let end = part_length M.edge_targets _ _ _ _ c.loop-target.target-index c.edges_of.ensures.0 c.edges_of.ensures.1 c.requires.2 c.loop-target-test.false in
    (all_counted c.loop-target.invariant.1 end M.labels M.offsets M.edge_labels M.edge_weights ∙ ap (λ l. length (distinct (others c.args.s l))) (row_is M c.args.s _ _ refl refl), c.loop-target.invariant.1.low)
