use mathlib.Core.Path.{◌≡◌, subst⁻¹, ap, ◌∙◌}
use mathlib.Core.Bool.{false}
use Prim.Native.Nat.{ℕ, suc, ◌+◌, ◌-◌, ◌*◌, ◌^◌, ◌≤◌}
use native.Mathlib.Omega.{arith}
use lib.ListN.{length, get_or}
use Rattle.numbers.proofs.Bools.{one_if, one_if_le}
use Rattle.epsdelta_theory.specs.Sweeps.{marks}
use Rattle.epsdelta_sweeps.proofs.Marking.{byte_start, byte_next, bit_as_number, room_bit, room_low}
use Rattle.epsdelta_sweeps.proofs.marks.byte_in_row.Goals as goal

pub loop-i-init : goal.loop-i-init
loop-i-init c =
    let a = c.args in
    let e : a.t + 8 - a.t ≡ 8 = omega arith in
    (omega arith, omega arith, rw e (omega arith), λ Q M. rw e (byte_start (a.s * length a.of.now.classes.now + a.t) (marks Q)))

pub overflow_mul-byte : goal.overflow_mul-byte
overflow_mul-byte c =
    let l = c.loop-i in
    let t = c.args.t in
    let h = c.loop-i-test.true in
    let r = room_low (l.i - t) (l.i - 1 - t) l.byte (omega arith) l.invariant.2 in
    omega arith

pub overflow_add-byte : goal.overflow_add-byte
overflow_add-byte c =
    let l = c.loop-i in
    let t = c.args.t in
    let h = c.loop-i-test.true in
    let z : c.from.result ≡ one_if c.entry.result = c.from.ensures ∙ bit_as_number c.entry.result in
    let o = one_if_le c.entry.result in
    let r = room_low (l.i - t) (l.i - 1 - t) l.byte (omega arith) l.invariant.2 in
    omega arith

pub loop-i-preserved : goal.loop-i-preserved
loop-i-preserved c =
    let l = c.loop-i in
    let t = c.args.t in
    let f = c.args.s * length c.args.of.now.classes.now in
    let b = c.entry.result in
    let h = c.loop-i-test.true in
    let u = l.invariant.1 in
    let j = l.i - 1 - t in
    let k : l.i - t ≡ suc j = omega arith in
    let z : c.from.result ≡ one_if b = c.from.ensures ∙ bit_as_number b in
    let g : f + (l.i - 1) ≡ f + t + j = omega arith in (
      omega arith,
      omega arith,
      subst⁻¹ (λ (x : ℕ). (2 * l.byte + x + 1) * 2 ^ j ≤ 256) z (room_bit (l.i - t) j l.byte b k l.invariant.2),
      λ Q M. ap (λ (x : ℕ). 2 * l.byte + x) z ∙ byte_next (marks Q) (f + t) (l.i - t) j l.byte k (omega arith) (l.invariant.3 Q M) b (c.entry.ensures Q M ∙ ap (λ (x : ℕ). get_or (marks Q) x false) g),
    )
