use Rattle.std.specs.Prelude.{◌≡◌, length}
use Rattle.replay_text.specs.Reading.{Lasts}
use Rattle.replay_text.specs.Words.{pair, past_pair, values, behind}
use Rattle.numbers.proofs.Over.{over}
use Rattle.replay_text.proofs.text.Reader.hex_field.Given as goal

abbrev pub invariant-loop-entry : goal.invariant-loop-entry
invariant-loop-entry l =
    Lasts l.initial.self l.self × (l.self.rest.now ≡ behind past_pair l.entry-index l.initial.self.rest.now)
    × (l.list ≡ over (values pair past_pair (length l.initial.list) l.initial.self.rest.now) l.entry-index l.initial.list)
