-- `of_bits` is safe: a pattern that passes the test is no NaN's, since those are just the patterns above infinity's, the sign apart.
use mathlib.Core.Path.{refl, sym, subst, ◌∙◌}
use mathlib.Core.Bool.{Bool, not}
use lib.Dec.{T}
use lib.Ieee.{binary64}
use lib.Ieee.Bits.{nan_bits_above}
use borrow.Author.Tests.{le-ltb, lt-ltb}
use Rattle.replay_text.specs.Words.{float_of}
use Rattle.replay_text.proofs.text.of_bits.Goals as goal

pub float_from_bits-result : goal.float_from_bits-result
float_from_bits-result c = subst (λ (b : Bool). T (not b)) (sym (nan_bits_above binary64 c.args.bits ∙ le-ltb _ _ c.if-bits-gt-INFINITY.false)) tt

pub returns-then-bits-gt-INFINITY : goal.returns-then-bits-gt-INFINITY
unfolding float_of lib.Ieee.of_bits
returns-then-bits-gt-INFINITY c = rw (lt-ltb _ _ c.if-bits-gt-INFINITY.true) refl
