use Rattle.std.proofs.Common.{rules}
use borrow.Author.Tests.{tests}
use Prim.Native.Nat.{◌≤◌}
use lib.ListN.{length, get_or}
use mathlib.Core.Path.{◌∙◌}
use Rattle.flow_theory.proofs.Pushing.{lower, least_ends, none_smaller}
use Rattle.flow_theory.proofs.path.least.Goals as goal
use Rattle.flow_theory.proofs.path.least.Goals.{in-Some, in_default}

pub loop-e-preserved : goal.loop-e-preserved
loop-e-preserved c =
    lower c.loop-e.invariant c.loop-e-test.true _ (elim c.match-get.branch [
      | in-Some w ↦ search (rules, tests)
      | in_default w ↦ let past : length c.args.caps.now ≤ get_or c.args.path.now c.loop-e.e-index 0 = search (rules, tests) in w.y-is ∙ none_smaller c.args.caps.now _ _ past
    ])

pub returns : goal.returns
returns c = least_ends c.loop-e.invariant c.loop-e-test.false
