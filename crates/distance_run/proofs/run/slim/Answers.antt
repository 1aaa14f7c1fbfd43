-- Whether each row is short is what the definition says.
use Rattle.std.proofs.Common.{rules, tests, ◌∙◌, ◌+◌, ℕ, get_or}
use lib.Dec.{leb}
use Rattle.std.proofs.lemmas.Iterator.{YieldsList-from_range}
use Rattle.std.proofs.lemmas.Iterator.Search.{all_from_yields_List}
use Rattle.distance_words.proofs.Ranges.{all_in_range}
use Rattle.distance_run.proofs.run.slim.Goals as goal

pub returns : goal.returns
returns c =
    let chain = c.args.chain.now in
    let n = chain.shape.states in
    let short = λ (s : ℕ). leb (get_or chain.offsets.now (s + 1) 0) (get_or chain.offsets.now s 0 + 32) in
    all_from_yields_List short _ _ c.all.result c.all.ensures.ran (YieldsList-from_range 0 n n (search rules) (search rules)) (λ x b q k. search (rules, tests)) ∙ all_in_range short n
