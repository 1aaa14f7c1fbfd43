use Rattle.std.specs.Prelude.{◌≡◌, length}
use Rattle.replay_text.specs.Reading.{Lasts}
use Rattle.replay_text.specs.Words.{values, behind}
use Rattle.numbers.proofs.Over.{over}
use Rattle.replay_text.proofs.text.Reader.next_each.Given as goal

abbrev pub invariant-loop-entry : goal.invariant-loop-entry
invariant-loop-entry g l =
    Lasts l.initial.self l.self × (l.self.rest.now ≡ behind g.T.NextEntry.past l.entry-index l.initial.self.rest.now)
    × (l.list ≡ over (values g.T.NextEntry.said g.T.NextEntry.past (length l.initial.list) l.initial.self.rest.now) l.entry-index l.initial.list)
