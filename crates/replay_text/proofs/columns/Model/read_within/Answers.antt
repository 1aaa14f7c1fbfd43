-- The lists stand one behind the other, behind the shape, and share their room.
use Rattle.std.proofs.Common.{ap, ◌∙◌, ℕ, ◌-◌, List, min}
use Rattle.replay_text.specs.Words.{next_real, past_real, next_field_size, next_listed, past_next_list, next_list_at, behind}
use Rattle.replay_text.proofs.Words.{first_within, next_within, same_within}
use Rattle.replay_text.proofs.columns.Model.read_within.Goals as goal

pub returns-clause-numbers : goal.returns-clause-numbers
unfolding behind
returns-clause-numbers c =
    let t = next_list_at 0 c.args.r.now.rest.now in
    let room = c.args.numbers in
    let begin = first_within room t c.next_shape-self.new.self.rest.now c.next_shape-self.ensures.read.3 in
    let one = next_within 0 room room c.fill_within-room.result t _ _ begin.0 begin.1 c.fill_within-room.ensures.left c.fill_within-room.ensures.read.1 in
    let two = next_within 1 room _ c.fill_within-room-2.result t _ _ one.0 one.1 c.fill_within-room-2.ensures.left c.fill_within-room-2.ensures.read.1 in
    let three = next_within 2 room _ c.fill_within-room-3.result t _ _ two.0 two.1 c.fill_within-room-3.ensures.left c.fill_within-room-3.ensures.read.1 in (
      c.fill_within-room.ensures.entries ∙ same_within 0 room _ t _ begin.0 begin.1,
      c.fill_within-room-2.ensures.entries ∙ same_within 1 room _ t _ one.0 one.1,
      c.fill_within-room-3.ensures.entries ∙ same_within 2 room _ t _ two.0 two.1,
      c.fill_within.ensures.entries ∙ same_within 3 room _ t _ three.0 three.1,
    )

pub returns-clause-weights : goal.returns-clause-weights
unfolding behind
returns-clause-weights c =
    let t = next_list_at 0 c.args.r.now.rest.now in
    let room = c.args.numbers in
    let begin = first_within room t c.next_shape-self.new.self.rest.now c.next_shape-self.ensures.read.3 in
    let one = next_within 0 room room c.fill_within-room.result t _ _ begin.0 begin.1 c.fill_within-room.ensures.left c.fill_within-room.ensures.read.1 in
    let two = next_within 1 room _ c.fill_within-room-2.result t _ _ one.0 one.1 c.fill_within-room-2.ensures.left c.fill_within-room-2.ensures.read.1 in
    let three = next_within 2 room _ c.fill_within-room-3.result t _ _ two.0 two.1 c.fill_within-room-3.ensures.left c.fill_within-room-3.ensures.read.1 in
    let four = next_within 3 room _ c.fill_within.result t _ _ three.0 three.1 c.fill_within.ensures.left c.fill_within.ensures.read.1 in
    c.fill_within-2.ensures.entries ∙ ap (next_listed next_real past_real (min c.args.weights 2112)) four.1

pub returns-clause-rest : goal.returns-clause-rest
unfolding behind
returns-clause-rest c =
    let t = next_list_at 0 c.args.r.now.rest.now in
    let room = c.args.numbers in
    let begin = first_within room t c.next_shape-self.new.self.rest.now c.next_shape-self.ensures.read.3 in
    let one = next_within 0 room room c.fill_within-room.result t _ _ begin.0 begin.1 c.fill_within-room.ensures.left c.fill_within-room.ensures.read.1 in
    let two = next_within 1 room _ c.fill_within-room-2.result t _ _ one.0 one.1 c.fill_within-room-2.ensures.left c.fill_within-room-2.ensures.read.1 in
    let three = next_within 2 room _ c.fill_within-room-3.result t _ _ two.0 two.1 c.fill_within-room-3.ensures.left c.fill_within-room-3.ensures.read.1 in
    let four = next_within 3 room _ c.fill_within.result t _ _ three.0 three.1 c.fill_within.ensures.left c.fill_within.ensures.read.1 in
    c.fill_within-2.ensures.read.1 ∙ ap (past_next_list past_real (min c.args.weights 2112)) four.1

pub returns-clause-left : goal.returns-clause-left
unfolding behind
returns-clause-left c =
    let t = next_list_at 0 c.args.r.now.rest.now in
    let room = c.args.numbers in
    let begin = first_within room t c.next_shape-self.new.self.rest.now c.next_shape-self.ensures.read.3 in
    let one = next_within 0 room room c.fill_within-room.result t _ _ begin.0 begin.1 c.fill_within-room.ensures.left c.fill_within-room.ensures.read.1 in
    let two = next_within 1 room _ c.fill_within-room-2.result t _ _ one.0 one.1 c.fill_within-room-2.ensures.left c.fill_within-room-2.ensures.read.1 in
    let three = next_within 2 room _ c.fill_within-room-3.result t _ _ two.0 two.1 c.fill_within-room-3.ensures.left c.fill_within-room-3.ensures.read.1 in
    let four = next_within 3 room _ c.fill_within.result t _ _ three.0 three.1 c.fill_within.ensures.left c.fill_within.ensures.read.1 in
    c.fill_within-2.ensures.left ∙ ap (λ (w : List ℕ). c.args.weights - next_field_size (min c.args.weights 2112) w) four.1
