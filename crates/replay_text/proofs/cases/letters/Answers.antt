use Rattle.std.proofs.Common.{rules, tests, ap, ◌∙◌, ℕ, not, eqb, take, drop}
use Rattle.std.proofs.lemmas.Iterator.{YieldsList-from_slice}
use Rattle.std.proofs.lemmas.Iterator.Search.{position_from_yields_List}
use Rattle.replay_text.specs.Cases.{letters}
use Rattle.replay_text.proofs.Cuts.{first_place}
use Rattle.replay_text.proofs.cases.letters.Goals as goal

pub returns : goal.returns
unfolding letters
returns c =
    let w = c.args.word.now in
    let e = first_place (λ b. not (eqb b 0)) w _ _ c.unwrap_or-start.ensures (position_from_yields_List (λ b. not (eqb b 0)) _ _ _ c.position.ensures.ran (YieldsList-from_slice w cc) (λ x b q k. search (rules, tests))) in
    c.front.ensures ∙ ap (take 8) (c.behind.ensures ∙ ap (λ (n : ℕ). drop n w) e)
