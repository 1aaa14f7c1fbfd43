use Rattle.std.proofs.Common.{rules, refl, arith, ◌+◌, ◌≤◌, ◌<◌, ◌∙◌, length}
use borrow.Author.Tests.{tests}
use Rattle.std.proofs.lemmas.Iterator.{YieldsList-from_range, serves_from_Range}
use Rattle.std.proofs.lemmas.Iterator.Search.{all_from_yields_List}
use Rattle.numbers.proofs.Loops.{every_of_range}
use Rattle.bisim_core.specs.Data.{columns_of}
use Rattle.bisim_core.specs.Model.{begins, rises, row}
use Rattle.bisim_core.proofs.Models.{begins_up}
use Rattle.bisim_core.proofs.check.rows_rise.Goals as goal

pub all-requires-clause-callable : goal.all-requires-clause-callable
all-requires-clause-callable c = serves_from_Range (λ x q k. search (rules, tests)) (λ x l u.
    let M = columns_of c.args.model.now in
    let n = c.args.model.now.shape.states in
    let p = c.requires in
    let a = p.1 x u in
    let b = begins_up M n p.1 (x + 1) n (omega arith) (omega arith) in
    let i = p.0 in
    let g = p.2 in
    let k = p.3 in
    let t : (x + 1 < length c.args.model.now.offsets.now) × (begins M x ≤ begins M (x + 1)) × (begins M (x + 1) ≤ length c.args.model.now.edge_labels.now) × (begins M (x + 1) ≤ length c.args.model.now.edge_targets.now) = (omega arith, a, omega arith, omega arith) in
    search (rules, tests))

pub returns : goal.returns
returns c =
    let m = c.args.model.now in
    all_from_yields_List (λ s. rises (row (columns_of m) s)) _ _ _ c.all.ensures.ran (YieldsList-from_range 0 m.shape.states m.shape.states refl (omega arith)) (λ x b q k. search (rules, tests)) ∙ every_of_range _ _
