use Rattle.std.proofs.Common.{ap, ◌∙◌, ℕ}
use Rattle.replay_text.specs.Words.{past, word_size}
use Rattle.replay_text.proofs.text.Reader.word.Goals as goal

pub returns-clause-read : goal.returns-clause-read
returns-clause-read c =
    let t = c.args.self.now.rest.now in
    let read = c.letters-word.ensures.read in
    (read.0, c.ended.ensures.read ∙ ap (λ (n : ℕ). past n c.letters-word.new.self.rest.now) c.letters-word.ensures.size ∙ ap (past (word_size t)) read.1)
