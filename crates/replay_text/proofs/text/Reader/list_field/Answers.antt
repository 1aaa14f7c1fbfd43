use Rattle.std.proofs.Common.{ap, ◌∙◌, ℕ, List, length}
use lib.Seq.{length-take-le}
use Rattle.replay_text.specs.Words.{first_word, past_word, values, behind, field_size}
use Rattle.replay_text.proofs.text.Reader.list_field.Goals as goal

pub returns-clause-read : goal.returns-clause-read
returns-clause-read g c =
    let read = c.size_field-n.ensures.read in
    let each = c.read_each.ensures.read in
    let value = λ (t : List ℕ). g.T.Entry.said (first_word t) in
    let size = ap length c.front_mut-list.ensures ∙ length-take-le _ c.args.out.now c.size_field-n.ensures.room in (
      each.0 ∙ ap (λ (k : ℕ). values value past_word k c.size_field-n.new.self.rest.now) (size ∙ read.0) ∙ ap (values value past_word (field_size (length c.args.out.now) c.args.self.now.rest.now)) read.1,
      each.1 ∙ ap (λ (k : ℕ). behind past_word k c.size_field-n.new.self.rest.now) (size ∙ read.0) ∙ ap (behind past_word (field_size (length c.args.out.now) c.args.self.now.rest.now)) read.1,
    )
