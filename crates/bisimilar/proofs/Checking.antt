-- The checks of `related`: what is known if none fails, and how the answer goes by them.
use mathlib.Core.Path.{◌≡◌, refl, sym}
use Prim.Native.Nat.{ℕ, ◌+◌, ◌*◌, ◌≤◌, ◌<◌}
use mathlib.Core.Bool.{◌||◌}
use native.Mathlib.Omega.{arith}
use lib.Dec.{ltb, leb}
use borrow.Author.Tests.{ltb-false, leb-false, le-ltb, lt-leb}
use Rattle.numbers.proofs.Bools.{or_f}
use Rattle.numbers.proofs.Refuses.{check_none, check_skip, none}
use Rattle.epsdelta_theory.specs.Relation.{relation_bytes}
use Rattle.epsdelta_theory.proofs.Pairs.{entry_in}
use Rattle.epsdelta_sweeps.proofs.Marking.{square_most}
use Rattle.bisimilar.specs.Related.{related_refusal}

module _ (left right bytes s t : ℕ) where
  -- none fails
  pub unrefused : left ≤ 2000 → right ≤ 2000 → s < left → t < right → relation_bytes (left + right) ≤ bytes → left + right ≤ 2000 → related_refusal left right bytes s t ≡ 0
  unrefused a b c d e f =
      check_skip 3 _ _ 0 (none _ _ (le-ltb 2000 left a) (le-ltb 2000 right b))
      (check_skip 4 _ _ 0 (none _ _ (lt-leb left s c) (lt-leb right t d))
      (check_skip 7 _ _ 0 (le-ltb bytes (relation_bytes (left + right)) e)
      (check_skip 10 _ _ 0 (le-ltb 2000 (left + right) f) refl)))

  -- the states together are few, and the pair's bit is low
  pub in_range : 0 ≡ related_refusal left right bytes s t → (left + right ≤ 2000) × (s * (left + right) + (left + t) < 16000000)
  in_range e =
      let a = check_none 2 (ltb 2000 left || ltb 2000 right) _ (sym e) in
      let b = check_none 3 (leb left s || leb right t) _ a.1 in
      let c = check_none 6 (ltb bytes (relation_bytes (left + right))) _ b.1 in
      let d = check_none 9 (ltb 2000 (left + right)) 0 c.1 in
      let b2 = or_f (leb left s) (leb right t) b.0 in
      let l = leb-false left s b2.0 in
      let r = leb-false right t b2.1 in
      let few = ltb-false 2000 (left + right) d.0 in
      let i = entry_in (left + right) s (left + t) (omega arith) (omega arith) in
      let q = square_most left right (omega arith) (omega arith) in
      (few, omega arith)
