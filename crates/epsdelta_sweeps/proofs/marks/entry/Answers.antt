-- `marks::entry` meets its contract: the marks are symmetric, and past the last state there are none (Marking).
use Rattle.std.proofs.Common.{◌∙◌}
use lib.ListN.{length}
use borrow.Author.Tests.{le-ltb}
use Rattle.epsdelta_sweeps.proofs.Marking.{past_end_lem, in_order}
use Rattle.epsdelta_sweeps.proofs.marks.entry.Goals as goal

pub returns-then-s-of : goal.returns-then-s-of
returns-then-s-of c = let a = c.args in λ Q M. in_order Q (length a.of.now.classes.now) a.s a.t M c.if-s-of.true c.requires (rw (c.min.ensures, c.max.ensures) at c.marked.ensures)

pub returns-else-s-of : goal.returns-else-s-of
returns-else-s-of c = let a = c.args in λ Q M. le-ltb a.s (length a.of.now.classes.now) c.if-s-of.false ∙ past_end_lem Q (length a.of.now.classes.now) a.s a.t M c.if-s-of.false
