use Rattle.std.proofs.Common.{rules, ◌≡◌, ap, ◌∙◌, ℕ, List, length}
use native.Mathlib.Omega.{arith}
use lib.Seq.{length-take-le}
use Rattle.replay_text.specs.Words.{first_word, past_word, values, behind, field_size}
use Rattle.replay_text.proofs.Words.{values_length, take_front}
use Rattle.replay_text.proofs.columns.Column.fill.Goals as goal

pub returns-clause-read : goal.returns-clause-read
returns-clause-read g c =
    let e : length c.args.self.now.entries ≡ g.row.N = search rules in
    let u = c.size_field-size.new.self.rest.now in
    let read = c.size_field-size.ensures.read in
    let size = length-take-le c.size_field-size.result c.args.self.now.entries (omega (arith, c.size_field-size.ensures.room, e)) in
    (read.0, c.read_each.ensures.read.1 ∙ ap (λ (k : ℕ). behind past_word k u) (size ∙ read.0) ∙ ap (behind past_word (field_size g.row.N c.args.r.now.rest.now)) read.1)

pub returns-clause-entries : goal.returns-clause-entries
returns-clause-entries g c =
    let e : length c.args.self.now.entries ≡ g.row.N = search rules in
    let u = c.size_field-size.new.self.rest.now in
    let read = c.size_field-size.ensures.read in
    let value = λ (t : List ℕ). g.T.Entry.said (first_word t) in
    let size = length-take-le c.size_field-size.result c.args.self.now.entries (omega (arith, c.size_field-size.ensures.room, e)) in
    take_front _ c.read_each.new.list _ (ap length c.read_each.ensures.read.0 ∙ values_length _ _ _ _ ∙ size)
    ∙ c.read_each.ensures.read.0 ∙ ap (λ (k : ℕ). values value past_word k u) (size ∙ read.0) ∙ ap (values value past_word (field_size g.row.N c.args.r.now.rest.now)) read.1
