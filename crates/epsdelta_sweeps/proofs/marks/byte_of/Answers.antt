use mathlib.Core.Path.{◌≡◌, subst⁻¹, ap, ◌∙◌}
use mathlib.Core.Bool.{false}
use Prim.Native.Nat.{ℕ, suc, ◌+◌, ◌-◌, ◌*◌, ◌/◌, ◌%◌, ◌^◌, ◌≤◌}
use native.Mathlib.Nat.{div-add-mod'}
use native.Mathlib.Omega.{arith}
use lib.ListN.{length, get_or}
use Rattle.numbers.proofs.Bools.{one_if, one_if_le}
use Rattle.epsdelta_theory.specs.Sweeps.{marks}
use Rattle.epsdelta_sweeps.proofs.Marking.{byte_start, byte_next, bit_as_number, room_bit, room_low}
use Rattle.epsdelta_sweeps.proofs.marks.byte_of.Goals as goal

pub loop-i-init : goal.loop-i-init
loop-i-init c =
    let f = c.args.first in
    let e : f + 8 - f ≡ 8 = omega arith in
    (omega arith, omega arith, rw e (omega arith), λ Q M. rw e (byte_start f (marks Q)))

pub overflow_mul-byte : goal.overflow_mul-byte
overflow_mul-byte c =
    let l = c.loop-i in
    let f = c.args.first in
    let t = c.loop-i-test.true in
    let h = room_low (l.i - f) (l.i - 1 - f) l.byte (omega arith) l.invariant.2 in
    omega arith

pub overflow_add-byte : goal.overflow_add-byte
overflow_add-byte c =
    let l = c.loop-i in
    let f = c.args.first in
    let t = c.loop-i-test.true in
    let z : c.from.result ≡ one_if c.entry.result = c.from.ensures ∙ bit_as_number c.entry.result in
    let o = one_if_le c.entry.result in
    let h = room_low (l.i - f) (l.i - 1 - f) l.byte (omega arith) l.invariant.2 in
    omega arith

pub loop-i-preserved : goal.loop-i-preserved
loop-i-preserved c =
    let l = c.loop-i in
    let f = c.args.first in
    let n = length c.args.of.now.classes.now in
    let b = c.entry.result in
    let t = c.loop-i-test.true in
    let u = l.invariant.1 in
    let j = l.i - 1 - f in
    let s : l.i - f ≡ suc j = omega arith in
    let z : c.from.result ≡ one_if b = c.from.ensures ∙ bit_as_number b in
    let d : l.i - 1 ≡ f + j = omega arith in
    let g : (l.i - 1) / n * n + (l.i - 1) % n ≡ f + j = div-add-mod' (l.i - 1) n ∙ d in (
      omega arith,
      omega arith,
      subst⁻¹ (λ (x : ℕ). (2 * l.byte + x + 1) * 2 ^ j ≤ 256) z (room_bit (l.i - f) j l.byte b s l.invariant.2),
      λ Q M. ap (λ (x : ℕ). 2 * l.byte + x) z ∙ byte_next (marks Q) f (l.i - f) j l.byte s (omega arith) (l.invariant.3 Q M) b (c.entry.ensures Q M ∙ ap (λ (k : ℕ). get_or (marks Q) k false) g),
    )
