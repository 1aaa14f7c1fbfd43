use Rattle.std.proofs.Common.{rules, tests, ap, ◌∙◌, ℕ, eqb, take, drop}
use Rattle.std.proofs.lemmas.Iterator.{YieldsList-from_slice}
use Rattle.std.proofs.lemmas.Iterator.Search.{position_from_yields_List}
use Rattle.replay_text.specs.Cases.{past_line}
use Rattle.replay_text.proofs.Cuts.{line_found}
use Rattle.replay_text.proofs.text.Reader.past_line.Goals as goal

pub returns-clause-read : goal.returns-clause-read
unfolding past_line
returns-clause-read c =
    let t = c.args.self.now.rest.now in
    let e = line_found t _ _ _ c.front-room.ensures c.unwrap_or-size.ensures (position_from_yields_List (λ b. eqb b 10) _ _ _ c.position.ensures.ran (YieldsList-from_slice (take 1000000 t) cc) (λ x b q k. search (rules, tests))) in
    c.advance.ensures.0 ∙ ap (drop 1) (c.behind-self.ensures ∙ ap (λ (n : ℕ). drop n t) e)
