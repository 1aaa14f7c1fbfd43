-- The parts of the lists are what `build` is given, where they are there.
use Prim.Native.Nat.{◌+◌, ◌≤◌, ◌<◌}
use native.Mathlib.Omega.{arith}
use borrow.Author.Tests.{tests}
use Rattle.build_theory.specs.Lent.{columns_in}
use Rattle.card_models.specs.Lent.{transitions_in}
use Rattle.card_models.proofs.Parts.{past_short, past_there, side_short, side_cut}
use Rattle.card_models.proofs.sides.build_side.Goals as goal

pub returns-then-is_none_or-clause-built : goal.returns-then-is_none_or-clause-built
returns-then-is_none_or-clause-built c =
    let a = c.args in
    let t : c.least-there.result < a.from + a.head.transitions = past_short _ _ _ c.checked_sub.result c.checked_sub.ensures c.is_none_or.ensures (λ k m. grind (arith, tests)) c.if-is_none_or.true in
    side_short a.head a.from (transitions_in a.of.now) (columns_in a.store.now) (omega arith)

pub returns-clause-built : goal.returns-clause-built
returns-clause-built c =
    let a = c.args in
    let t : a.from + a.head.transitions ≤ c.least-there.result = past_there _ _ _ c.checked_sub.result c.checked_sub.ensures c.is_none_or.ensures (λ k m. grind (arith, tests)) c.if-is_none_or.false in
    side_cut a.head a.from (transitions_in a.of.now) (columns_in a.store.now) (omega arith) c.build.ensures.outcome
