-- The places of the links of masses that are lent.
use mathlib.Core.Path.{◌≡◌, refl, ap, ◌∙◌}
use mathlib.Core.Bool.{Bool, true, false, cond, true≢false}
use Prim.Native.Nat.{ℕ, ◌+◌, ◌*◌, ◌≤◌}
use lib.Dec.{leb}
use borrow.Author.Tests.{le-leb, leb-true}
use Rattle.std.specs.Prelude.{Option, Some, None}
use Rattle.std.specs.Option.{unwrap_or, is_some}
use Rattle.numbers.proofs.Bools.{and_t}
use Rattle.transport_theory.specs.Lent.{few, places_of}

module _ (m n : ℕ) where
  pub few_both : few m n ≡ true → (m ≤ 32) × (n ≤ 32)
  few_both q = let (u, v) = and_t (leb m 32) (leb n 32) q in (leb-true m 32 u, leb-true n 32 v)

  -- at most 32 on a side
  pub places_few : m ≤ 32 → n ≤ 32 → places_of m n ≡ Some (2 * (m + n + m * n))
  places_few a b = rw (le-leb m 32 a, le-leb n 32 b)

  pub places_or : m ≤ 32 → n ≤ 32 → (r : Option ℕ) (d : ℕ) → r ≡ places_of m n → unwrap_or r d ≡ 2 * (m + n + m * n)
  places_or a b r d e = ap (λ (x : Option ℕ). unwrap_or x d) (e ∙ places_few a b)

  -- as many as there are, where there are any
  pub places_some : {x : ℕ} → Some x ≡ places_of m n → (few m n ≡ true) × (x ≡ 2 * (m + n + m * n))
  places_some {x} e = pick (few m n) refl e
    where
      pick : (b : Bool) → few m n ≡ b → Some x ≡ cond b (Some (2 * (m + n + m * n))) None → (few m n ≡ true) × (x ≡ 2 * (m + n + m * n))
      pick true q h = (q, ap (λ (o : Option ℕ). unwrap_or o 0) h)
      pick false q h = absurd (true≢false (ap is_some h))
