use Rattle.std.specs.Prelude.{◌≡◌, ◌-◌}
use Rattle.replay_text.specs.Reading.{Kept}
use Rattle.replay_text.specs.Cases.{past_lines}
use Rattle.replay_text.proofs.text.Reader.past_lines.Given as goal

abbrev pub invariant-loop : goal.invariant-loop
invariant-loop l = Kept l.initial.self l.self × (past_lines (1000000 - l.counter) l.self.rest.now ≡ past_lines 1000000 l.initial.self.rest.now)
