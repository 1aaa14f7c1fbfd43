-- Whether all are even is what the definition says.
use Rattle.std.proofs.Common.{rules, tests, ◌∙◌, arith}
use lib.ListN.{length}
use Rattle.std.proofs.lemmas.Iterator.{YieldsList-from_range}
use Rattle.std.proofs.lemmas.Iterator.Search.{all_from_yields_List}
use Rattle.chain_theory.specs.Lent.{of_chain}
use Rattle.distance_words.proofs.Ranges.{all_in_range}
use Rattle.distance_words.proofs.Even.{even_pairs}
use Rattle.distance_even.proofs.Evens.{told}
use Rattle.distance_even.proofs.all_even.Goals as goal

pub returns-then-n-task : goal.returns-then-n-task
returns-then-n-task c =
    let T = c.args.task.now in
    let n = length T.pairs.lefts.now in
    let test = even_pairs T.pairs.lefts.now T.pairs.rights.now (of_chain T.left) (of_chain T.right) in
    told n T.pairs.lefts.now T.pairs.rights.now (of_chain T.left) (of_chain T.right) (omega arith) c.if-n-task.true _
    (all_from_yields_List test _ _ c.all.result c.all.ensures.ran (YieldsList-from_range 0 n n (search rules) (search rules)) (λ x b q k. search (rules, tests)) ∙ all_in_range test n)
