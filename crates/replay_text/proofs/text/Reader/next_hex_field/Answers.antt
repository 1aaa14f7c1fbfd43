use Rattle.std.proofs.Common.{◌≡◌, refl, ap, ◌∙◌, ℕ, length}
use native.Mathlib.Omega.{arith}
use lib.Seq.{length-take-le}
use Rattle.replay_text.specs.Words.{pair, past_pair, past_next_field, closed, values, behind, next_field_size}
use Rattle.replay_text.proofs.Words.{behind_next, value_next, values_done}
use Rattle.replay_text.proofs.text.Reader.next_hex_field.Goals as goal

pub loop-byte-init : goal.loop-byte-init
unfolding behind
loop-byte-init c = ((λ h. h, λ h. h, refl), refl, refl)

pub loop-byte-preserved : goal.loop-byte-preserved
loop-byte-preserved c =
    let i = c.loop-byte.invariant in
    let read = c.pair.ensures.read in
    let lasts = c.pair.ensures.lasts in (
      (λ h. lasts.0 (i.0.0 h), λ h. lasts.1 (i.0.1 h), lasts.2 ∙ i.0.2),
      behind_next past_pair c.loop-byte.byte-index _ _ _ i.1 read.1,
      value_next pair past_pair _ _ _ _ c.loop-byte.byte-index _ i.2 i.1 read.0 c.loop-byte-test.true,
    )

pub returns-clause-read : goal.returns-clause-read
returns-clause-read c =
    let i = c.loop-byte.invariant in
    let read = c.next_size_field-n.ensures.read in
    let n = c.next_size_field-n.result in
    let room = length c.args.out.now in
    let rest = c.args.self.now.rest.now in
    let u = c.next_size_field-n.new.self.rest.now in
    let size = ap length c.front_mut-list.ensures ∙ length-take-le n c.args.out.now c.next_size_field-n.ensures.room ∙ read.0 in
    let last : c.loop-byte.byte-index ≡ length c.front_mut-list.result.now = omega (arith, c.loop-byte-test.false, c.loop-byte.auto.byte-index-end) in (
      values_done pair past_pair u _ _ c.loop-byte.byte-index i.2 last ∙ ap (λ (k : ℕ). values pair past_pair k u) size ∙ ap (values pair past_pair (next_field_size room rest)) read.1,
      c.closed.ensures.read ∙ ap (closed n) (i.1 ∙ ap (λ (k : ℕ). behind past_pair k u) (last ∙ size) ∙ ap (behind past_pair (next_field_size room rest)) read.1) ∙ ap (λ (k : ℕ). closed k (behind past_pair (next_field_size room rest) (past_next_field rest))) read.0,
    )
