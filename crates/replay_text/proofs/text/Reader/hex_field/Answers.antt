use Rattle.std.proofs.Common.{◌≡◌, refl, ap, ◌∙◌, ℕ, length}
use native.Mathlib.Omega.{arith}
use lib.Seq.{length-take-le}
use Rattle.replay_text.specs.Words.{pair, past_pair, past_field, closed, values, behind, field_size}
use Rattle.replay_text.proofs.Words.{behind_next, value_next, values_done}
use Rattle.replay_text.proofs.text.Reader.hex_field.Goals as goal

pub loop-entry-init : goal.loop-entry-init
unfolding behind
loop-entry-init c = ((λ h. h, λ h. h, refl), refl, refl)

pub loop-entry-preserved : goal.loop-entry-preserved
loop-entry-preserved c =
    let i = c.loop-entry.invariant in
    let read = c.pair.ensures.read in
    let lasts = c.pair.ensures.lasts in (
      (λ h. lasts.0 (i.0.0 h), λ h. lasts.1 (i.0.1 h), lasts.2 ∙ i.0.2),
      behind_next past_pair c.loop-entry.entry-index _ _ _ i.1 read.1,
      value_next pair past_pair _ _ _ _ c.loop-entry.entry-index _ i.2 i.1 read.0 c.loop-entry-test.true,
    )

pub returns-clause-read : goal.returns-clause-read
returns-clause-read c =
    let i = c.loop-entry.invariant in
    let read = c.size_field-n.ensures.read in
    let n = c.size_field-n.result in
    let room = length c.args.out.now in
    let rest = c.args.self.now.rest.now in
    let u = c.size_field-n.new.self.rest.now in
    let size = ap length c.front_mut-list.ensures ∙ length-take-le n c.args.out.now c.size_field-n.ensures.room ∙ read.0 in
    let last : c.loop-entry.entry-index ≡ length c.front_mut-list.result.now = omega (arith, c.loop-entry-test.false, c.loop-entry.auto.entry-index-end) in (
      values_done pair past_pair u _ _ c.loop-entry.entry-index i.2 last ∙ ap (λ (k : ℕ). values pair past_pair k u) size ∙ ap (values pair past_pair (field_size room rest)) read.1,
      c.closed.ensures.read ∙ ap (closed n) (i.1 ∙ ap (λ (k : ℕ). behind past_pair k u) (last ∙ size) ∙ ap (behind past_pair (field_size room rest)) read.1) ∙ ap (λ (k : ℕ). closed k (behind past_pair (field_size room rest) (past_field rest))) read.0,
    )
