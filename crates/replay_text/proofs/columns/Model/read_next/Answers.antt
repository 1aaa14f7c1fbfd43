-- The lists stand one behind the other, behind the shape.
use Rattle.std.proofs.Common.{ap, ◌∙◌}
use Rattle.replay_text.specs.Words.{next_short, next_real, past_whole, past_real, next_listed, past_next_list, behind}
use Rattle.replay_text.proofs.columns.Model.read_next.Goals as goal

pub returns-clause-read : goal.returns-clause-read
returns-clause-read c = let read = c.next_shape-self.ensures.read in (read.0, read.1, read.2)

pub returns-clause-numbers : goal.returns-clause-numbers
unfolding behind
returns-clause-numbers c =
    let first = c.next_shape-self.ensures.read.3 in
    let second = c.fill_next.ensures.read.1 ∙ ap (past_next_list past_whole 2112) first in
    let third = c.fill_next-2.ensures.read.1 ∙ ap (past_next_list past_whole 2112) second in
    let fourth = c.fill_next-3.ensures.read.1 ∙ ap (past_next_list past_whole 2112) third in (
      c.fill_next.ensures.entries ∙ ap (next_listed next_short past_whole 2112) first,
      c.fill_next-2.ensures.entries ∙ ap (next_listed next_short past_whole 2112) second,
      c.fill_next-3.ensures.entries ∙ ap (next_listed next_short past_whole 2112) third,
      c.fill_next-4.ensures.entries ∙ ap (next_listed next_short past_whole 2112) fourth,
    )

pub returns-clause-weights : goal.returns-clause-weights
unfolding behind
returns-clause-weights c =
    let second = c.fill_next.ensures.read.1 ∙ ap (past_next_list past_whole 2112) c.next_shape-self.ensures.read.3 in
    let third = c.fill_next-2.ensures.read.1 ∙ ap (past_next_list past_whole 2112) second in
    let fourth = c.fill_next-3.ensures.read.1 ∙ ap (past_next_list past_whole 2112) third in
    c.fill_next-5.ensures.entries ∙ ap (next_listed next_real past_real 2112) (c.fill_next-4.ensures.read.1 ∙ ap (past_next_list past_whole 2112) fourth)

pub returns-clause-rest : goal.returns-clause-rest
unfolding behind
returns-clause-rest c =
    let second = c.fill_next.ensures.read.1 ∙ ap (past_next_list past_whole 2112) c.next_shape-self.ensures.read.3 in
    let third = c.fill_next-2.ensures.read.1 ∙ ap (past_next_list past_whole 2112) second in
    let fourth = c.fill_next-3.ensures.read.1 ∙ ap (past_next_list past_whole 2112) third in
    c.fill_next-5.ensures.read.1 ∙ ap (past_next_list past_real 2112) (c.fill_next-4.ensures.read.1 ∙ ap (past_next_list past_whole 2112) fourth)
