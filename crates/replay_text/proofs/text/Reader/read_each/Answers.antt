use Rattle.std.proofs.Common.{◌≡◌, refl, ap, ◌∙◌, ℕ, List, length}
use native.Mathlib.Omega.{arith}
use Rattle.replay_text.specs.Words.{first_word, past_word, behind}
use Rattle.replay_text.proofs.Words.{behind_next, value_next, values_done}
use Rattle.replay_text.proofs.text.Reader.read_each.Goals as goal

pub loop-entry-init : goal.loop-entry-init
unfolding behind
loop-entry-init g c = ((λ h. h, λ h. h, refl), refl, refl)

pub loop-entry-preserved : goal.loop-entry-preserved
loop-entry-preserved g c =
    let i = c.loop-entry.invariant in
    let read = c.read.ensures.read in
    let lasts = c.read.ensures.lasts in (
      (λ h. lasts.0 (i.0.0 h), λ h. lasts.1 (i.0.1 h), lasts.2 ∙ i.0.2),
      behind_next past_word c.loop-entry.entry-index _ _ _ i.1 read.1,
      value_next (λ t. g.T.Entry.said (first_word t)) past_word _ _ _ _ c.loop-entry.entry-index _ i.2 i.1 read.0 c.loop-entry-test.true,
    )

pub returns-clause-read : goal.returns-clause-read
returns-clause-read g c =
    let i = c.loop-entry.invariant in
    let last : c.loop-entry.entry-index ≡ length c.args.list.now = omega (arith, c.loop-entry-test.false, c.loop-entry.auto.entry-index-end) in
    (values_done (λ (t : List ℕ). g.T.Entry.said (first_word t)) past_word _ _ _ c.loop-entry.entry-index i.2 last, i.1 ∙ ap (λ (k : ℕ). behind past_word k c.args.self.now.rest.now) last)
