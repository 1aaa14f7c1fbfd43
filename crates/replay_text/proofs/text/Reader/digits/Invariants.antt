use Rattle.std.specs.Prelude.{◌≡◌, drop}
use Rattle.replay_text.specs.Reading.{Lasts}
use Rattle.replay_text.specs.Words.{next_digits_from, next_digits}
use Rattle.replay_text.proofs.text.Reader.digits.Given as goal

abbrev pub invariant-loop-b : goal.invariant-loop-b
invariant-loop-b l = Lasts l.initial.self l.self × (l.self.rest ≡ l.initial.self.rest) × (next_digits_from l.base l.x (drop l.b-index l.word) ≡ next_digits l.base l.word)
