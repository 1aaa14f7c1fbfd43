-- `marks::byte_at` meets its contract: `first` is entry (s, t), and a byte whose entries share no class with their row is 0.
use mathlib.Core.Path.{ap, ◌∙◌}
use Prim.Native.Nat.{ℕ}
use native.Mathlib.Nat.{div-add-mod'}
use lib.ListN.{length, take, drop}
use Rattle.numbers.specs.Bits.{bits}
use Rattle.epsdelta_theory.specs.Sweeps.{marks}
use Rattle.epsdelta_sweeps.proofs.marks.byte_at.Goals as goal

pub returns-then-apart : goal.returns-then-apart
returns-then-apart c = let a = c.args in λ Q M. c.apart.ensures c.if-apart.true Q M ∙ ap (λ (x : ℕ). bits (take 8 (drop x (marks Q)))) (div-add-mod' a.first (length a.of.now.classes.now))

pub returns : goal.returns
returns c = let a = c.args in λ Q M. c.byte_in_row.ensures Q M ∙ ap (λ (x : ℕ). bits (take 8 (drop x (marks Q)))) (div-add-mod' a.first (length a.of.now.classes.now))
