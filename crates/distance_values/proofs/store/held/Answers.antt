-- The tests one after the other; the last is whether each of the couplings can be read.
use Rattle.std.proofs.Common.{rules, tests, ◌∙◌, ◌≤◌, length}
use borrow.Author.Tests.{le-leb}
use Rattle.std.proofs.lemmas.Iterator.{YieldsList-from_range}
use Rattle.std.proofs.lemmas.Iterator.Search.{all_from_yields_List}
use Rattle.distance_words.proofs.Ranges.{all_in_range}
use Rattle.distance_words.proofs.Readable.{lies}
use Rattle.distance_values.proofs.store.held.Goals as goal

pub returns-then-n-store-2 : goal.returns-then-n-store-2
returns-then-n-store-2 c =
    let S = c.args.store.now in
    let n = c.args.n in
    let test = lies S.starts.now S.lengths.now S.places.now S.masses.now n in
    let p : n ≤ length S.starts.now = search rules in
    let q : n ≤ length S.lengths.now = search rules in
    rw (le-leb n (length S.starts.now) p, le-leb n (length S.lengths.now) q)
    (all_from_yields_List test _ _ c.all.result c.all.ensures.ran (YieldsList-from_range 0 n n (search rules) (search rules)) (λ x b q k. search (rules, tests)) ∙ all_in_range test n)
