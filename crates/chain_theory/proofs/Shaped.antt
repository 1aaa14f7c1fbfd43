-- What is known of a chain that passes check 4: what every reader of its columns may build on.
use mathlib.Core.Path.{◌≡◌}
use mathlib.Core.Bool.{false, not}
use Prim.Native.Nat.{ℕ, ◌+◌, ◌≤◌, ◌<◌}
use mathlib.Core.List.{List}
use native.Mathlib.Omega.{arith}
use lib.Dec.{eqb, ltb}
use lib.Ieee.{Float}
use lib.ListN.{length, get_or}
use borrow.Author.Tests.{ltb-true, ltb-false, leb-true, eqb-true, not-false}
use Rattle.numbers.proofs.Bools.{and_t, or_f}
use Rattle.numbers.proofs.Alls.{every_at, all_front}
use Rattle.chain_theory.specs.Columns.{ChainColumns, begins}
use Rattle.chain_theory.specs.Check.{thin, steady, misshapen}
use Rattle.chain_theory.specs.declared.ChainShape.{ChainShape}

-- columns whose rows can be read
pub record Rows (n : ℕ) (O T : List ℕ) (P : List Float) : Type 0 where
  pub offsets_long : n < length O
  pub rise : (s : ℕ) → s < n → get_or O s 0 ≤ get_or O (s + 1) 0
  pub targets_long : get_or O n 0 ≤ length T
  pub probabilities_long : get_or O n 0 ≤ length P

pub record Shaped (H : ChainShape) (C : ChainColumns) : Type 0 where
  pub initial : H.initial.0 < H.states
  pub rows : Rows H.states C.offsets C.targets C.probabilities
  pub first : begins C 0 ≡ 0
  pub last : begins C H.states ≡ H.entries
  pub aimed : (i : ℕ) → i < H.entries → get_or C.targets i 0 < H.states

pub shaped : (H : ChainShape) (C : ChainColumns) → misshapen H C ≡ false → Shaped H C
shaped H C e =
    let (a, f) = or_f (not (ltb H.initial.0 H.states)) _ e in
    let (b, g) = or_f (thin H C) _ f in
    let (c, d) = or_f (not (steady H C)) _ g in
    let (b₁, b₂) = or_f (ltb (length C.offsets) (H.states + 1)) _ b in
    let (b₃, b₄) = or_f (ltb (length C.targets) H.entries) _ b₂ in
    let (c₁, c₂) = and_t (eqb (begins C 0) 0) _ (not-false _ c) in
    let (c₃, c₄) = and_t (eqb (begins C H.states) H.entries) _ c₂ in
    let o : H.states + 1 ≤ length C.offsets = ltb-false (length C.offsets) (H.states + 1) b₁ in
    let t : H.entries ≤ length C.targets = ltb-false (length C.targets) H.entries b₃ in
    let p : H.entries ≤ length C.probabilities = ltb-false (length C.probabilities) H.entries b₄ in
    let l : begins C H.states ≡ H.entries = eqb-true (begins C H.states) H.entries c₃ in
    record {
      initial = ltb-true _ _ (not-false _ a);
      rows = record { offsets_long = omega arith; rise = λ s h. leb-true _ _ (every_at _ H.states c₄ s h); targets_long = omega arith; probabilities_long = omega arith };
      first = eqb-true (begins C 0) 0 c₁;
      last = l;
      aimed = λ i h. ltb-true _ _ (all_front (λ (t : ℕ). ltb t H.states) C.targets 0 H.entries t (not-false _ d) i h);
    }
