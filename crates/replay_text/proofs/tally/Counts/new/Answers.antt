use Rattle.std.proofs.Common.{rules, ◌≡◌, ◌∙◌, sym, replicate}
use Rattle.std.proofs.lemmas.List.{same_lists, get_or-replicate}
use Rattle.replay_text.specs.declared.tally.Tally.{Tally}
use Rattle.replay_text.specs.Tally.{nothing}
use Rattle.replay_text.proofs.tally.Counts.new.Goals as goal

zero_tally : (t : Tally) → (t.agree ≡ 0) × (t.differ ≡ 0) → t ≡ nothing
zero_tally t e = search rules

pub returns : goal.returns
returns c =
    let (of, r) = c.default.ensures in
    let (o, a) = r in
    let entries = same_lists c.default.result.entries (replicate 22 nothing) of.long (λ k d b. zero_tally _ (of.at k d (rw (sym of.long) b)) ∙ sym (get_or-replicate 22 k nothing d (rw (sym of.long) b))) in
    let others = zero_tally c.default.result.other o in
    let alls = zero_tally c.default.result.all a in
    search rules
