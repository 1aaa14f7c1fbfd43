-- One value more, as `Seen::add` has it: known, new with room for it, or new without.
use mathlib.Core.Path.{◌≡◌, sym, ap, ◌∙◌}
use Prim.Native.Nat.{ℕ, ◌+◌, ◌≤◌, ◌<◌}
use mathlib.Core.List.{List, [], ◌∷◌, ◌++◌}
use mathlib.Core.Bool.{Bool, true, false}
use borrow.Author.Tests.{ltb-true, ltb-false}
use native.Mathlib.Omega.{arith}
use native.Mathlib.Numerals.{add-one}
use lib.ListN.{length, take, set, length-append}
use lib.Seq.{length-take-le, take-suc-set}
use Rattle.std.specs.Prelude.{Option, is_some}
use Rattle.numbers.specs.Search.{place}
use Rattle.bisim_core.specs.Ids.{intern, listed}
use Rattle.bisim_core.proofs.Interning.{placed}
use Rattle.build_theory.proofs.Steps.{Noted, Overfull}
use Rattle.bisim_core.proofs.Distinct.{intern_old, intern_new}

module _ (seen : List ℕ) (count t : ℕ) (w : count ≤ length seen) {k : Option ℕ} (e : k ≡ place t (take count seen)) where
  known_length : length (take count seen) ≡ count
  known_length = length-take-le count seen w

  is_listed : {b : Bool} → is_some k ≡ b → listed t (take count seen) ≡ b
  is_listed h = sym (placed t (take count seen) k e) ∙ h

  pub note_old : is_some k ≡ true → Noted seen count t seen count
  unfolding intern
  note_old h =
      let l = known_length in
      let f = ltb-true _ _ (is_listed h) in
      let z : intern (take count seen) (t ∷ []) ≡ take count seen = intern_old (take count seen) t [] (omega arith) in
      record { room = w; known = sym z }

  module _ (h : is_some k ≡ false) where
    new : intern (take count seen) (t ∷ []) ≡ take count seen ++ (t ∷ [])
    unfolding intern
    new = let l = known_length in let f = ltb-false _ _ (is_listed h) in intern_new (take count seen) t [] (omega arith)

    grown : count + 1 ≡ length (intern (take count seen) (t ∷ []))
    grown = let a = ap length new in let b = length-append (take count seen) (t ∷ []) in let l = known_length in omega arith

    pub note_new : count < length seen → (seen' : List ℕ) → seen' ≡ set seen count t → Noted seen count t seen' (count + 1)
    note_new g seen' p = rw p (record { room = omega arith; known = ap (λ (x : ℕ). take x (set seen count t)) (add-one count) ∙ take-suc-set seen count t g ∙ sym new })

    pub note_full : length seen ≤ count → Overfull seen count t
    note_full g = let e = grown in omega arith
