use Rattle.std.proofs.Common.{rules, tests, ap, ◌∙◌, ℕ, not, length, take, drop}
use native.Mathlib.Omega.{arith}
use lib.Seq.{length-take-le}
use Rattle.std.proofs.lemmas.Iterator.{YieldsList-from_slice}
use Rattle.std.proofs.lemmas.Iterator.Search.{position_from_yields_List}
use Rattle.replay_text.specs.Words.{in_word, word_size}
use Rattle.replay_text.proofs.Words.{word_found, word_within}
use Rattle.replay_text.proofs.text.Reader.letters.Goals as goal

pub split_at-requires : goal.split_at-requires
split_at-requires c =
    let t = c.args.self.now.rest.now in
    let e = word_found t _ _ _ c.front-room.ensures c.unwrap_or-size.ensures (position_from_yields_List (λ b. not (in_word b)) _ _ _ c.position.ensures.ran (YieldsList-from_slice (take 32 t) cc) (λ x b q k. search (rules, tests))) in
    let h = word_within t in
    omega (arith, e, h)

pub returns-clause-read : goal.returns-clause-read
returns-clause-read c =
    let t = c.args.self.now.rest.now in
    let e = word_found t _ _ _ c.front-room.ensures c.unwrap_or-size.ensures (position_from_yields_List (λ b. not (in_word b)) _ _ _ c.position.ensures.ran (YieldsList-from_slice (take 32 t) cc) (λ x b q k. search (rules, tests))) in
    (c.split_at.ensures.front ∙ ap (λ (n : ℕ). take n t) e, c.split_at.ensures.back ∙ ap (λ (n : ℕ). drop n t) e)

pub returns-clause-size : goal.returns-clause-size
returns-clause-size c =
    let t = c.args.self.now.rest.now in
    let e = word_found t _ _ _ c.front-room.ensures c.unwrap_or-size.ensures (position_from_yields_List (λ b. not (in_word b)) _ _ _ c.position.ensures.ran (YieldsList-from_slice (take 32 t) cc) (λ x b q k. search (rules, tests))) in
    ap length (c.split_at.ensures.front ∙ ap (λ (n : ℕ). take n t) e) ∙ length-take-le (word_size t) t (word_within t)
