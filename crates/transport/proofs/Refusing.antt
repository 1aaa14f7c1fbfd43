-- What the checks of `transport` decide, and what the answer is then.
use mathlib.Core.Path.{◌≡◌, refl, sym, ap, ◌∙◌}
use mathlib.Core.Logic.{◌≢◌}
use Prim.Native.Nat.{ℕ, ◌*◌, ◌≤◌}
use mathlib.Core.Bool.{Bool, true, false, not, ◌&&◌, true≢false}
use mathlib.Core.List.{List}
use native.Mathlib.Omega.{arith}
use lib.Dec.{ltb, leb}
use lib.ListN.{length, take}
use lib.Ieee.{Float}
use borrow.Author.Tests.{ltb-false, leb-true, not-false}
use Rattle.numbers.specs.Lists.{all}
use Rattle.numbers.specs.Real.{sum}
use Rattle.numbers.specs.declared.refusal.Refusal.{Refusal}
use Rattle.numbers.specs.Refuse.{check, number}
use Rattle.numbers.proofs.Bools.{and_t, or_f}
use Rattle.numbers.proofs.Refuses.{number_positive, check_hit, check_skip, check_none}
use Rattle.transport_theory.specs.Refusal.{short, fits, masses_fit, costs_fit, unequal, transport_refusal}
use Rattle.transport_theory.proofs.TransportRows.{Roomy}
use Rattle.transport.specs.Outcome.{size_refusal}

-- ---- the costs

pub costs_front : (m n : ℕ) (costs : List Float) (r : Bool) → r ≡ all fits (take (m * n) costs) → r ≡ costs_fit m n costs
unfolding costs_fit
costs_front m n costs r q = q

-- ---- what is refused, and what is not

pub first_fails : (p q : Bool) → p ≡ false → (p && q) ≡ false
first_fails p q e = ap (λ (x : Bool). x && q) e

pub second_fails : (p q : Bool) → p ≡ true → q ≡ false → (p && q) ≡ false
second_fails p q e f = ap (λ (x : Bool). x && q) e ∙ f

pub both : (p q : Bool) → p ≡ true → q ≡ true → (p && q) ≡ true
both true q e f = f
both false q e f = absurd (true≢false (sym e))

-- the checks of the sizes come first: what they turn back is turned back, and past them the others are left
sizes_hit : (r : ℕ) (s m n fit right : Bool) (later : ℕ) → r ≢ 0 → r ≡ check 7 s (check 15 (not (m && n)) 0) → r ≡ check 7 s (check 15 (not ((m && (n && fit)) && right)) later)
sizes_hit r true m n fit right later z e = e
sizes_hit r false false n fit right later z e = e
sizes_hit r false true false fit right later z e = e
sizes_hit r false true true fit right later z e = absurd (z e)

sizes_pass : (s m n fit right : Bool) (later : ℕ) → 0 ≡ check 7 s (check 15 (not (m && n)) 0) → check 15 (not (fit && right)) later ≡ check 7 s (check 15 (not ((m && (n && fit)) && right)) later)
sizes_pass true m n fit right later e = absurd (omega arith)
sizes_pass false false n fit right later e = absurd (omega arith)
sizes_pass false true false fit right later e = absurd (omega arith)
sizes_pass false true true fit right later e = refl

module _ (right : Bool) (a b : List Float) (costs rows columns masses : ℕ) where
  abbrev lists_short : Bool
  lists_short = short (length a) (length b) costs rows columns masses

  abbrev fit : Bool
  fit = all fits a && all fits b

  abbrev r₁₆ : ℕ
  r₁₆ = check 16 (unequal (sum a) (sum b)) 0

  pub size_first : (r : Refusal) → number r ≡ size_refusal (length a) (length b) costs rows columns masses → number r ≡ transport_refusal right a b costs rows columns masses
  unfolding masses_fit
  size_first r e = sizes_hit (number r) lists_short (leb (length a) 32) (leb (length b) 32) fit right r₁₆ (number_positive r) e

  module _ (e : 0 ≡ size_refusal (length a) (length b) costs rows columns masses) where
    past : check 15 (not (fit && right)) r₁₆ ≡ transport_refusal right a b costs rows columns masses
    unfolding masses_fit
    past = sizes_pass lists_short (leb (length a) 32) (leb (length b) 32) fit right r₁₆ e

    pub refused_15 : (fit && right) ≡ false → 15 ≡ transport_refusal right a b costs rows columns masses
    refused_15 f = sym (check_hit 15 _ r₁₆ (ap not f)) ∙ past

    pub refused_16 : (fit && right) ≡ true → unequal (sum a) (sum b) ≡ true → 16 ≡ transport_refusal right a b costs rows columns masses
    refused_16 f u = sym (check_skip 15 _ r₁₆ 16 (ap not f) (check_hit 16 _ 0 u)) ∙ past

    pub refused_none : (fit && right) ≡ true → unequal (sum a) (sum b) ≡ false → 0 ≡ transport_refusal right a b costs rows columns masses
    refused_none f u = sym (check_skip 15 _ r₁₆ 0 (ap not f) (check_skip 16 _ 0 0 u refl)) ∙ past

-- lists that are long enough
long_enough : (m n costs rows columns masses : ℕ) → short m n costs rows columns masses ≡ false → (m * n ≤ costs) × (m * n ≤ rows) × (m * n ≤ columns) × (m * n ≤ masses)
unfolding short
long_enough m n costs rows columns masses h =
    let (x₁, r₁) = or_f (ltb costs (m * n)) _ h in
    let (x₂, r₂) = or_f (ltb rows (m * n)) _ r₁ in
    let (x₃, x₄) = or_f (ltb columns (m * n)) _ r₂ in
    (ltb-false costs (m * n) x₁, ltb-false rows (m * n) x₂, ltb-false columns (m * n) x₃, ltb-false masses (m * n) x₄)

module _ (a b costs : List Float) (rows columns : List ℕ) (masses : List Float) where
  fits_in : short (length a) (length b) (length costs) (length rows) (length columns) (length masses) ≡ false → leb (length a) 32 ≡ true → leb (length b) 32 ≡ true → Roomy a b costs rows columns masses
  fits_in h f g =
      let (c, r, k, m) = long_enough (length a) (length b) (length costs) (length rows) (length columns) (length masses) h in
      record { few_a = leb-true (length a) 32 f; few_b = leb-true (length b) 32 g; enough = c; rows_room = r; columns_room = k; masses_room = m }

  pub roomy : (right : Bool) → transport_refusal right a b (length costs) (length rows) (length columns) (length masses) ≡ 0 → Roomy a b costs rows columns masses
  unfolding masses_fit
  roomy right z =
      let (h, r) = check_none 6 _ _ z in
      let (f, s) = check_none 14 _ _ r in
      let (y₁, s₁) = and_t (leb (length a) 32) _ (and_t (masses_fit a b) right (not-false (masses_fit a b && right) f)).0 in
      let (y₂, s₂) = and_t (leb (length b) 32) _ s₁ in
      fits_in h y₁ y₂

  pub sized_roomy : size_refusal (length a) (length b) (length costs) (length rows) (length columns) (length masses) ≡ 0 → Roomy a b costs rows columns masses
  sized_roomy z =
      let (h, r) = check_none 6 _ _ z in
      let (f, s) = check_none 14 _ _ r in
      let (y₁, y₂) = and_t (leb (length a) 32) _ (not-false (leb (length a) 32 && leb (length b) 32) f) in
      fits_in h y₁ y₂
