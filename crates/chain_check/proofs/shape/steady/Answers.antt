use Rattle.std.proofs.Common.{arith}
use borrow.Author.Tests.{tests}
use Rattle.std.proofs.lemmas.List.Sorted.{non_decreasing_from_is_sorted}
use Rattle.chain_check.proofs.Ascents.{sorted_every}
use Rattle.chain_check.proofs.shape.steady.Goals as goal

pub returns-then-offsets-states : goal.returns-then-offsets-states
returns-then-offsets-states c =
    let s = sorted_every c.args.chain.now.offsets.now c.args.chain.now.shape.states c.is_sorted.result c.requires (non_decreasing_from_is_sorted _ _ c.is_sorted.ensures.cases) in
    grind (arith, tests, s)
