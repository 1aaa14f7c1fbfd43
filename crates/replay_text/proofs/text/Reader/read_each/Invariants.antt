use Rattle.std.specs.Prelude.{◌≡◌, length}
use Rattle.replay_text.specs.Reading.{Lasts}
use Rattle.replay_text.specs.Words.{first_word, past_word, values, behind}
use Rattle.numbers.proofs.Over.{over}
use Rattle.replay_text.proofs.text.Reader.read_each.Given as goal

abbrev pub invariant-loop-entry : goal.invariant-loop-entry
invariant-loop-entry g l =
    Lasts l.initial.self l.self × (l.self.rest.now ≡ behind past_word l.entry-index l.initial.self.rest.now)
    × (l.list ≡ over (values (λ t. g.T.Entry.said (first_word t)) past_word (length l.initial.list) l.initial.self.rest.now) l.entry-index l.initial.list)
