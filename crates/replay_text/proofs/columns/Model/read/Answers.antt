-- The lists stand one behind the other, behind the shape.
use Rattle.std.proofs.Common.{ap, ◌∙◌}
use Rattle.replay_text.specs.Words.{short, real, listed, past_list, behind}
use Rattle.replay_text.proofs.columns.Model.read.Goals as goal

pub returns-clause-read : goal.returns-clause-read
returns-clause-read c = let read = c.shape-self.ensures.read in (read.0, read.1, read.2)

pub returns-clause-numbers : goal.returns-clause-numbers
unfolding behind
returns-clause-numbers c =
    let first = c.shape-self.ensures.read.3 in
    let second = c.fill.ensures.read.1 ∙ ap (past_list 2112) first in
    let third = c.fill-2.ensures.read.1 ∙ ap (past_list 2112) second in
    let fourth = c.fill-3.ensures.read.1 ∙ ap (past_list 2112) third in (
      c.fill.ensures.entries ∙ ap (listed short 2112) first,
      c.fill-2.ensures.entries ∙ ap (listed short 2112) second,
      c.fill-3.ensures.entries ∙ ap (listed short 2112) third,
      c.fill-4.ensures.entries ∙ ap (listed short 2112) fourth,
    )

pub returns-clause-weights : goal.returns-clause-weights
unfolding behind
returns-clause-weights c =
    let second = c.fill.ensures.read.1 ∙ ap (past_list 2112) c.shape-self.ensures.read.3 in
    let third = c.fill-2.ensures.read.1 ∙ ap (past_list 2112) second in
    let fourth = c.fill-3.ensures.read.1 ∙ ap (past_list 2112) third in
    c.fill-5.ensures.entries ∙ ap (listed real 2112) (c.fill-4.ensures.read.1 ∙ ap (past_list 2112) fourth)

pub returns-clause-rest : goal.returns-clause-rest
unfolding behind
returns-clause-rest c =
    let second = c.fill.ensures.read.1 ∙ ap (past_list 2112) c.shape-self.ensures.read.3 in
    let third = c.fill-2.ensures.read.1 ∙ ap (past_list 2112) second in
    let fourth = c.fill-3.ensures.read.1 ∙ ap (past_list 2112) third in
    c.fill-5.ensures.read.1 ∙ ap (past_list 2112) (c.fill-4.ensures.read.1 ∙ ap (past_list 2112) fourth)
