-- The checks pass one after the other; a place behind a check knows that it passed, so the first that fails decides the answer.
use Rattle.std.proofs.Common.{refl, sym, ◌∙◌, ◌++◌, take, drop, arith}
use lib.Seq.{length-take-le}
use Rattle.numbers.proofs.Refuses.{number_positive, turned_back_code}
use Rattle.build_theory.proofs.Steps.{Sorted}
use Rattle.bisim_edges.proofs.Arranges.{Ends, call_of, many_states, faulty, sortable, put_back, sorted_ends}
use Rattle.bisim_edges.proofs.planner.arranged.Goals.{After-arrange, After-crowded}
use Rattle.bisim_edges.proofs.planner.arranged.Goals as goal

-- the keys that are sorted
sorted : (c : After-arrange)
    → Sorted c.args.draft.now.sources.now c.args.draft.now.targets.now (take c.least-n.result c.args.keys.now) (take c.least-n.result (c.arrange.new.keys ++ drop c.least-n.result c.args.keys.now))
sorted c = put_back c.least-n.result c.args.keys.now c.arrange.new.keys (omega (arith, c.least-n.ensures, c.requires.room)) c.arrange.auto.keys c.arrange.ensures

-- and what is answered of them
ends : (c : After-crowded) → let keys = c.arrange.new.keys ++ drop c.least-n.result c.args.keys.now in
    Sorted c.args.draft.now.sources.now c.args.draft.now.targets.now (take c.least-n.result c.args.keys.now) (take c.least-n.result keys) → Ends (call_of c.args.draft.now c.args.full) c.args.keys.now keys c.crowded.result
ends c s = sorted_ends (call_of c.args.draft.now c.args.full) c.if-draft-gt2000.false c.in_ok-fault.ensures refl c.requires _ c.least-n.ensures s c.crowded.ensures

pub returns-then-draft-gt2000 : goal.returns-then-draft-gt2000
returns-then-draft-gt2000 c = many_states (call_of c.args.draft.now c.args.full) c.if-draft-gt2000.true

pub returns-in_err-fault : goal.returns-in_err-fault
returns-in_err-fault c =
    let turned = c.from_residual.ensures.1 in
    faulty (call_of c.args.draft.now c.args.full) c.if-draft-gt2000.false _ (turned_back_code c.from_residual.result _ _ turned c.in_err-fault.ensures)
    (λ z. number_positive _ (sym (turned_back_code c.from_residual.result _ _ turned refl) ∙ z))

pub slice_bounds-arrange-end : goal.slice_bounds-arrange-end
slice_bounds-arrange-end c = omega (arith, c.least-n.ensures, c.requires.room)

pub arrange-requires : goal.arrange-requires
arrange-requires c = rw c.least-n.ensures (sortable (call_of c.args.draft.now c.args.full) c.if-draft-gt2000.false c.in_ok-fault.ensures refl c.requires)

pub crowded-requires : goal.crowded-requires
crowded-requires c =
    let s = sorted (goal.at.crowded-requires c).After-arrange in
    (s.keys, (let e = length-take-le c.least-n.result (c.arrange.new.keys ++ drop c.least-n.result c.args.keys.now) in omega (arith, c.least-n.ensures)))

pub returns-then-crowded : goal.returns-then-crowded
returns-then-crowded c = let at = goal.at.returns-then-crowded c in (ends at.After-crowded (sorted at.After-arrange)).crowds c.if-crowded.true

pub returns-then-full : goal.returns-then-full
returns-then-full c = let at = goal.at.returns-then-full c in (ends at.After-crowded (sorted at.After-arrange)).crammed c.if-crowded.false c.if-full.true

pub returns : goal.returns
returns c = let at = goal.at.returns c in (ends at.After-crowded (sorted at.After-arrange)).passes c.if-crowded.false c.if-full.false
