use Rattle.std.specs.Prelude.{◌≡◌, Some, drop}
use Rattle.replay_text.specs.Words.{digits_from, digits}
use Rattle.replay_text.proofs.whole_words.parsed.Given as goal

abbrev pub invariant-loop-b : goal.invariant-loop-b
invariant-loop-b l = digits_from l.base (Some l.x) (drop l.b-index l.bytes) ≡ digits l.fn.base l.fn.bytes
