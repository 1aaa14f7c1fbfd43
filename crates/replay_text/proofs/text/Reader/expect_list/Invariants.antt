use Rattle.replay_text.specs.Reading.{Lasts}
use Rattle.replay_text.proofs.text.Reader.expect_list.Given as goal

abbrev pub invariant-loop-x : goal.invariant-loop-x
invariant-loop-x g l = Lasts l.initial.self l.self
