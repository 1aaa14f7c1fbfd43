-- `numbers::bit` meets its contract: past the end no bit is set, and elsewhere shift and mask read it.
use Rattle.std.proofs.Common.{◌≡◌, rules, ap, ◌∙◌, arith, ℕ, ◌/◌, ◌^◌, get_or, eqb}
use lib.Bits.{bit_and}
use Rattle.numbers.proofs.Masks.{below_eight, reads_bit}
use Rattle.numbers.proofs.bit.Goals as goal

pub overflow_cast-result : goal.overflow_cast-result
overflow_cast-result c = omega (arith, below_eight c.args.i)

pub overflow_shr-result : goal.overflow_shr-result
overflow_shr-result c = below_eight c.args.i

pub returns : goal.returns
returns c = let a = c.args in let e : c.unwrap_or-byte.result ≡ get_or a.store.now (a.i / 8) 0 = search rules in ap (λ (x : ℕ). eqb (bit_and (x / 2 ^ bit_and a.i 7) 1) 1) e ∙ reads_bit a.store.now a.i
