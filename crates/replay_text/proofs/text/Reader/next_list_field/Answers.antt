use Rattle.std.proofs.Common.{ap, ◌∙◌, ℕ, length}
use lib.Seq.{length-take-le}
use Rattle.replay_text.specs.Words.{values, behind, next_field_size}
use Rattle.replay_text.proofs.text.Reader.next_list_field.Goals as goal

pub returns-clause-read : goal.returns-clause-read
returns-clause-read g c =
    let read = c.next_size_field-n.ensures.read in
    let each = c.next_each.ensures.read in
    let value = g.T.NextEntry.said in
    let next = g.T.NextEntry.past in
    let size = ap length c.front_mut-list.ensures ∙ length-take-le _ c.args.out.now c.next_size_field-n.ensures.room in (
      each.0 ∙ ap (λ (k : ℕ). values value next k c.next_size_field-n.new.self.rest.now) (size ∙ read.0) ∙ ap (values value next (next_field_size (length c.args.out.now) c.args.self.now.rest.now)) read.1,
      each.1 ∙ ap (λ (k : ℕ). behind next k c.next_size_field-n.new.self.rest.now) (size ∙ read.0) ∙ ap (behind next (next_field_size (length c.args.out.now) c.args.self.now.rest.now)) read.1,
    )
