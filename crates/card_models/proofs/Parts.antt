-- Parts of lists, as code cuts them, and what `build_side` answers by whether the transitions are there.
use Rattle.std.specs.Prelude.{Option, Some, None, Err, SomeIff, MatchOption}
use mathlib.Core.Path.{◌≡◌, sym, ap, ◌∙◌}
use mathlib.Core.List.{List}
use Prim.Native.Nat.{ℕ, ◌+◌, ◌-◌, ◌≤◌, ◌<◌}
use native.Mathlib.Omega.{arith}
use lib.ListN.{take, drop}
use lib.Seq.{slice}
use borrow.Author.Tests.{lt-ltb, le-ltb, ltb-true, ltb-false}
use mathlib.Core.Bool.{Bool, true, false, false≢true}
use mathlib.Core.Logic.{◌⊎◌, inl, inr}
use lib.Dec.{ltb}
use Rattle.numbers.proofs.Bools.{lt_or_ge}
use Rattle.numbers.proofs.Parts.{drop_take}
use Rattle.bisim_core.specs.Data.{Transitions, Columns, transitions}
use Rattle.bisim_build.specs.Build.{Outcome, ends, build}
use Rattle.card_reader.specs.declared.reader.Head.{Head}
use Rattle.card_models.specs.Sides.{shortest, cut_at, side_ends}

pub cut : {A : Type 0} (m n : ℕ) (l : List A) → take (m + n - m) (drop m l) ≡ slice m (m + n) l
cut m n l = let e : m + n - m ≡ n = omega arith in ap (λ (x : ℕ). take x (drop m l)) e ∙ sym (drop_take m n l)

-- ---- whether fewer than b are left of n behind a, or a is past n

module _ {F : ℕ → Type 0} (n a b : ℕ) where
  pub past_short : (rest : Option ℕ) {r : Bool} → SomeIff rest (a ≤ n) (n - a) → MatchOption rest (r ≡ true) F → ((k : ℕ) → F k → r ≡ ltb k b) → r ≡ true → n < a + b
  past_short (Some k) (h, e) m f t = let l = ltb-true k b (sym (f k m) ∙ t) in omega arith
  past_short None h m f t = pick (lt_or_ge n a)
    where
      pick : (n < a) ⊎ (a ≤ n) → n < a + b
      pick (inl p) = omega arith
      pick (inr p) = absurd (h p)

  pub past_there : (rest : Option ℕ) {r : Bool} → SomeIff rest (a ≤ n) (n - a) → MatchOption rest (r ≡ true) F → ((k : ℕ) → F k → r ≡ ltb k b) → r ≡ false → a + b ≤ n
  past_there (Some k) (h, e) m f t = let l = ltb-false k b (sym (f k m) ∙ t) in omega arith
  past_there None h m f t = absurd (false≢true (sym t ∙ m))

module _ (h : Head) (m : ℕ) (C : Transitions) (M : Columns) where
  pub side_short : shortest C < m + h.transitions → ends (Err 7) M ≡ side_ends h m C M
  side_short e = rw (lt-ltb (shortest C) (m + h.transitions) e)

  pub side_there : m + h.transitions ≤ shortest C → build h.states (Some (record { 0 = h.initial })) (cut_at m h.transitions C) h.transitions M ≡ side_ends h m C M
  side_there e = rw (le-ltb (shortest C) (m + h.transitions) e)

  -- with the transitions that `build` is handed
  pub side_cut : {o : Outcome} → m + h.transitions ≤ shortest C
      → o ≡ build h.states (Some (record { 0 = h.initial })) (transitions (take (m + h.transitions - m) (drop m C.sources)) (take (m + h.transitions - m) (drop m C.labels)) (take (m + h.transitions - m) (drop m C.targets)) (take (m + h.transitions - m) (drop m C.weights))) h.transitions M
      → o ≡ side_ends h m C M
  side_cut e f = f ∙ rw (cut m h.transitions C.sources, cut m h.transitions C.labels, cut m h.transitions C.targets, cut m h.transitions C.weights) (side_there e)
