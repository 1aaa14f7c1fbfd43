-- A model that fails decides the answer, then the lengths of the lists; else both models are accepted, and what `both_rows` makes is their union.
use mathlib.Core.Path.{sym, ◌∙◌}
use native.Mathlib.Omega.{arith}
use Rattle.epsdelta_jumps.proofs.Unions.{turned_back, few_together, by_lists, ready, roomy, united}
use Rattle.epsdelta_jumps.proofs.jumps.union.Goals as goal

pub returns-in_err-earlier-clause-answer : goal.returns-in_err-earlier-clause-answer
returns-in_err-earlier-clause-answer c = turned_back c.args.left.now c.args.right.now _ c.from_residual.result _ c.check.ensures c.check-2.ensures c.in_err-earlier.ensures c.from_residual.ensures.1

pub overflow_add-states : goal.overflow_add-states
overflow_add-states c = let z = few_together c.args.left.now c.args.right.now c.check.ensures c.check-2.ensures c.in_ok-earlier.ensures in omega arith

pub overflow_add-edges : goal.overflow_add-edges
overflow_add-edges c = let z = few_together c.args.left.now c.args.right.now c.check.ensures c.check-2.ensures c.in_ok-earlier.ensures in omega arith

pub returns-then-short-clause-answer : goal.returns-then-short-clause-answer
returns-then-short-clause-answer c = by_lists c.args.left.now c.args.right.now c.check.ensures c.check-2.ensures c.in_ok-earlier.ensures (sym c.short.ensures ∙ c.if-short.true)

pub both_rows-requires-clause-models : goal.both_rows-requires-clause-models
both_rows-requires-clause-models c =
    ready c.args.left.now c.args.right.now c.check.ensures c.check-2.ensures c.in_ok-earlier.ensures

pub both_rows-requires-clause-room : goal.both_rows-requires-clause-room
both_rows-requires-clause-room c =
    roomy c.args.left.now c.args.right.now c.check.ensures c.check-2.ensures c.in_ok-earlier.ensures c.args.rows.now (sym c.short.ensures ∙ c.if-short.false)

pub returns-clause-answer : goal.returns-clause-answer
returns-clause-answer c = by_lists c.args.left.now c.args.right.now c.check.ensures c.check-2.ensures c.in_ok-earlier.ensures (sym c.short.ensures ∙ c.if-short.false)

pub returns-clause-laid : goal.returns-clause-laid
returns-clause-laid c =
    united c.args.left.now c.args.right.now c.check.ensures c.check-2.ensures c.in_ok-earlier.ensures c.args.rows.now c.both_rows.new.rows c.both_rows.ensures.laid
