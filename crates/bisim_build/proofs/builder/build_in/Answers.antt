-- The plan refuses, or the columns that it did not fill are written from the triples that it left.
use Rattle.std.proofs.Common.{◌≡◌, rules, refl, sym, ap, ◌∙◌, ℕ, ◌≤◌, List, length, take, arith}
use lib.Seq.{length-take-le}
use Rattle.std.proofs.lemmas.List.{take-map}
use Rattle.build_theory.specs.declared.keys.Triple.{Triple}
use Rattle.bisim_core.specs.Data.{columns}
use Rattle.build_theory.proofs.Plan.{err_is}
use Rattle.build_theory.proofs.Planning.{numbers}
use Rattle.bisim_edges.proofs.Numbers.{numbers_length}
use Rattle.bisim_build.specs.Build.{ends}
use Rattle.bisim_build.proofs.Builds.{call_of, Planned, plan_refused, plan_passed}
use Rattle.bisim_build.proofs.builder.build_in.Goals.{In_ok-edges}
use Rattle.bisim_build.proofs.builder.build_in.Goals as goal

-- work space for as many numbers as triples
roomy : {given : ℕ} (T : List Triple) → (given ≤ 4096 → given ≤ length T) → given ≤ 4096 → given ≤ length (numbers T)
roomy T f h = let r = f h in let l = numbers_length T in omega arith

-- the triples that the plan left, the first of which are the edges
left : (c : In_ok-edges) → c.triples-1.given.0 ≡ c.plan.new.lists.triples.now
left c = let s = c.plan.ensures.same_lists in search rules

cut : (m : ℕ) {T U : List Triple} → T ≡ U → numbers (take m T) ≡ take m (numbers U)
cut m {T} {U} e = ap (λ (t : List Triple). numbers (take m t)) e ∙ sym (take-map (λ (t : Triple). t.0) m U)

-- what is written from them
planned : (c : In_ok-edges)
    → Planned (call_of c.args.draft.now c.args.store.now (numbers c.args.triples.now)) c.plan.new.lists.label_values.now (numbers c.plan.new.lists.triples.now) c.plan.new.lists.edge_weights.now c.in_ok-edges.edges c.in_ok-edges.labels
planned c = plan_passed (call_of c.args.draft.now c.args.store.now (numbers c.args.triples.now)) (roomy c.args.triples.now c.requires) c.short-short.ensures _ _ c.in_ok-edges.ensures.plan

within : (c : In_ok-edges) → c.in_ok-edges.edges ≤ length c.triples-1.given.0
within c = let p = (planned c).within in let k = ap length (left c) in omega (arith, numbers_length c.plan.new.lists.triples.now)

pub returns-in_err-edges-clause-outcome : goal.returns-in_err-edges-clause-outcome
returns-in_err-edges-clause-outcome c =
    let S = c.args.store.now in
    let d = ap (λ a. ends a (columns c.plan.new.lists.label_values.now S.offsets.now S.edge_labels.now S.edge_targets.now c.plan.new.lists.edge_weights.now)) (err_is c.from_residual.result _ c.from_residual.ensures.1)
    ∙ plan_refused (call_of c.args.draft.now c.args.store.now (numbers c.args.triples.now)) (roomy c.args.triples.now c.requires) c.short-short.ensures _ c.in_err-edges.ensures.plan refl refl refl in
    let same = c.plan.ensures.same_lists in
    let l = sym same.0 in
    let w = sym same.2 in
    search rules

pub slice_bounds-fill-end : goal.slice_bounds-fill-end
slice_bounds-fill-end c = within (goal.at.slice_bounds-fill-end c).In_ok-edges

pub slice_bounds-fill-end-2 : goal.slice_bounds-fill-end-2
slice_bounds-fill-end-2 c = sym (length-take-le c.in_ok-edges.edges c.triples-1.given.0 (within (goal.at.slice_bounds-fill-end-2 c).In_ok-edges))

pub fill-requires : goal.fill-requires
fill-requires c = let at = (goal.at.fill-requires c).In_ok-edges in (planned at).fillable (cut c.in_ok-edges.edges (left at)) (sym (numbers_length (take c.in_ok-edges.edges c.triples-1.given.0)))

pub returns-clause-outcome : goal.returns-clause-outcome
returns-clause-outcome c =
    let at = (goal.at.returns-clause-outcome c).In_ok-edges in
    let labels : c.store-2-1.given.0 ≡ c.plan.new.lists.label_values.now = (let s = c.plan.ensures.same_lists in search rules) in
    let weights : c.store-1.given.0 ≡ c.plan.new.lists.edge_weights.now = (let s = c.plan.ensures.same_lists in search rules) in
    (planned at).built (cut c.in_ok-edges.edges (left at)) c.fill.ensures.edges c.fill.ensures.offsets (c.fill.ensures.labels ∙ labels) (c.fill.ensures.weights ∙ weights)
