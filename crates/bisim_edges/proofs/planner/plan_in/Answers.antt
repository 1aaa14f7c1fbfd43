-- The labels are interned, the checks made; then nothing is refused any more, and labels and edges go into the lists lent.
use Rattle.std.proofs.Common.{refl, sym, ap, ◌∙◌, ℕ, length, arith}
use lib.ListN.{length-replicate}
use lib.Seq.{length-take-le}
use Rattle.numbers.proofs.Refuses.{number_positive}
use Rattle.bisim_core.specs.Ids.{distinct}
use Rattle.build_theory.proofs.Plan.{ending, err_is}
use Rattle.build_theory.proofs.Planning.{lists_in}
use Rattle.bisim_edges.proofs.Numbers.{numbers_length}
use Rattle.bisim_edges.proofs.Plans.{asked_of, front_is, room_is, Checked, many_labels, arrangeable, made_checks}
use Rattle.bisim_edges.proofs.planner.plan_in.Goals.{After-arranged}
use Rattle.bisim_edges.proofs.planner.plan_in.Goals as goal

-- what the checks say
checked : (c : After-arranged) → Checked (asked_of c.args.draft.now c.args.short c.args.lists.now) c.intern_all.new.store c.intern_all.new.ids c.arranged.new.keys c.in-Some.count c.cramped-full.result
checked c =
    made_checks (asked_of c.args.draft.now c.args.short c.args.lists.now) c.requires.0 (front_is c.args.draft.now.given c.args.draft.now.labels.now c.min-2.ensures) c.in-Some.ensures (length-replicate {A = ℕ} 256 0) c.intern_all.auto.store
    c.least-there.ensures (room_is c.args.lists.now c.min.ensures c.min-room.ensures) c.cramped-full.ensures (c.intern_all.auto.ids ∙ c.requires.1) _ c.arranged.auto.keys

pub returns-in_default-clause-plan : goal.returns-in_default-clause-plan
returns-in_default-clause-plan c =
    let l = ap (λ x. length (distinct x)) (front_is c.args.draft.now.given c.args.draft.now.labels.now c.min-2.ensures) in
    let r = length-replicate {A = ℕ} 256 0 in
    many_labels (asked_of c.args.draft.now c.args.short c.args.lists.now) (let h = c.in_default.ensures in omega arith)

pub arranged-requires : goal.arranged-requires
arranged-requires c =
    arrangeable (asked_of c.args.draft.now c.args.short c.args.lists.now) c.requires.0 (front_is c.args.draft.now.given c.args.draft.now.labels.now c.min-2.ensures) c.in-Some.ensures (length-replicate {A = ℕ} 256 0) c.intern_all.auto.store
    (c.intern_all.auto.ids ∙ c.requires.1) c.requires.2

pub returns-in_err-arranged-clause-plan : goal.returns-in_err-arranged-clause-plan
returns-in_err-arranged-clause-plan c =
    ap (λ a. ending a (lists_in c.args.lists.now)) (err_is c.from_residual.result _ c.from_residual.ensures.1)
    ∙ (checked (goal.at.returns-in_err-arranged-clause-plan c).After-arranged).refused c.in_err-arranged.ensures (number_positive _)

pub slice_bounds-write_labels-end : goal.slice_bounds-write_labels-end
slice_bounds-write_labels-end c =
    let fit = ((checked (goal.at.slice_bounds-write_labels-end c).After-arranged).passed c.in_ok-arranged.ensures refl).labels_fit in
    sym (length-take-le c.in-Some.count c.intern_all.new.store fit.0)

pub write_labels-requires : goal.write_labels-requires
write_labels-requires c =
    let fit = ((checked (goal.at.write_labels-requires c).After-arranged).passed c.in_ok-arranged.ensures refl).labels_fit in
    omega (arith, fit.1, length-take-le c.in-Some.count c.intern_all.new.store fit.0)

pub join_runs-edges-requires : goal.join_runs-edges-requires
join_runs-edges-requires c =
    let l = numbers_length c.args.lists.now.triples.now in
    let j = ((checked (goal.at.join_runs-edges-requires c).After-arranged).passed c.in_ok-arranged.ensures refl).joinable in
    (j.0, j.1, omega (arith, j.2, l), j.3)

pub returns-clause-plan : goal.returns-clause-plan
returns-clause-plan c = ((checked (goal.at.returns-clause-plan c).After-arranged).passed c.in_ok-arranged.ensures refl).done c.write_labels.ensures c.join_runs-edges.ensures
