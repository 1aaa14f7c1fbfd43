-- By the case of the difference.
use native.Mathlib.Omega.{arith}
use mathlib.Core.Bool.{Bool, true}
use mathlib.Core.Path.{◌≡◌, sym, ap, ◌∙◌}
use mathlib.Core.Logic.{◌⊎◌, inl, inr}
use Prim.Native.Nat.{ℕ, ◌+◌, ◌-◌, ◌≤◌, ◌<◌}
use lib.Dec.{ltb}
use borrow.Author.Tests.{lt-ltb, le-ltb, tests}
use Rattle.std.specs.Prelude.{Option, Some, None, SomeIff, MatchOption}
use Rattle.numbers.proofs.Bools.{lt_or_ge}
use Rattle.chains.proofs.checks.below_sum.Goals as goal

moved : (n a b : ℕ) → a ≤ n → ltb (n - a) b ≡ ltb n (a + b)
moved n a b h = pick (lt_or_ge (n - a) b)
  where
    pick : (n - a < b) ⊎ (b ≤ n - a) → ltb (n - a) b ≡ ltb n (a + b)
    pick (inl p) = lt-ltb _ _ p ∙ sym (lt-ltb n (a + b) (omega arith))
    pick (inr p) = le-ltb _ _ p ∙ sym (le-ltb n (a + b) (omega arith))

by : {F : ℕ → Type 0} (n a b : ℕ) (rest : Option ℕ) {r : Bool} → SomeIff rest (a ≤ n) (n - a) → MatchOption rest (r ≡ true) F → ((k : ℕ) → F k → r ≡ ltb k b) → r ≡ ltb n (a + b)
by n a b (Some k) (h, e) m f = f k m ∙ ap (λ (j : ℕ). ltb j b) e ∙ moved n a b h
by n a b None h m f = m ∙ sym (lt-ltb n (a + b) (less (lt_or_ge n a)))
  where
    less : (n < a) ⊎ (a ≤ n) → n < a + b
    less (inl p) = omega arith
    less (inr p) = absurd (h p)

pub returns : goal.returns
returns c = by c.args.n c.args.a c.args.b c.checked_sub.result c.checked_sub.ensures c.is_none_or.ensures (λ k m. grind (arith, tests))
