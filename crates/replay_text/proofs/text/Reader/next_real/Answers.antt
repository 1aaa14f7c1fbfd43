use Rattle.std.proofs.Common.{ap, ◌∙◌, ℕ}
use Rattle.replay_text.specs.Words.{float_of, next_digits, past_bits, next_real, word_size}
use Rattle.replay_text.proofs.text.Reader.next_real.Goals as goal

pub returns-clause-read : goal.returns-clause-read
unfolding next_real
returns-clause-read c =
    let t = c.args.self.now.rest.now in
    let read = c.letters-word.ensures.read in
    let made = c.digits-bits.ensures.read in (
      c.of_bits.ensures ∙ ap float_of (made.0 ∙ ap (next_digits 16) read.0),
      c.bits_ended.ensures.read ∙ ap (λ (n : ℕ). past_bits n c.digits-bits.new.self.rest.now) c.letters-word.ensures.size ∙ ap (λ r. past_bits (word_size t) r.now) made.1 ∙ ap (past_bits (word_size t)) read.1,
    )
