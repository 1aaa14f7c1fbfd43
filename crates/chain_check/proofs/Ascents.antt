-- Targets that rise strictly, and offsets that do not fall: what the slice's own tests of neighbours answer.
use mathlib.Core.Path.{◌≡◌, refl, sym, ap, subst, ◌∙◌}
use mathlib.Core.Bool.{Bool, true, false, ◌&&◌}
use Prim.Native.Nat.{ℕ, zero, suc, ◌+◌, ◌<◌}
use mathlib.Core.List.{List, [], ◌∷◌}
use native.Mathlib.Omega.{arith}
use lib.Dec.{ltb, leb}
use lib.ListN.{length, get_or, take}
use lib.Seq.{get_or-take, length-take-le}
use borrow.Author.Tests.{le-leb, lt-leb}
use Rattle.std.specs.Bool.{MatchBool}
use Rattle.std.specs.List.{IsAllAdjacentAnswer}
use Rattle.std.specs.List.Sorted.{IsNonDecreasing}
use Rattle.numbers.specs.Lists.{every}
use Rattle.numbers.proofs.Alls.{every_of, every_not}
use Rattle.chain_theory.specs.Check.{ascends}

-- ---- targets

rise : (l : List ℕ) → ((k d : ℕ) → k + 1 < length l → ltb (get_or l k d) (get_or l (k + 1) d) ≡ true) → ascends l ≡ true
unfolding ascends
rise [] f = refl
rise (x ∷ []) f = refl
rise (x ∷ (y ∷ l)) f =
    ap (λ (b : Bool). b && ascends (y ∷ l)) (f 0 0 (omega arith))
    ∙ rise (y ∷ l) (λ k d h. let e : suc k + 1 ≡ suc (k + 1) = omega arith in subst (λ (j : ℕ). ltb (get_or (y ∷ l) k d) (get_or (x ∷ (y ∷ l)) j d) ≡ true) e (f (suc k) d (omega arith)))

stay : (l : List ℕ) (k j : ℕ) → j ≡ k + 1 → j < length l → ltb (get_or l k 0) (get_or l j 0) ≡ false → ascends l ≡ false
unfolding ascends
stay [] k j q h e = absurd (omega arith)
stay (x ∷ []) k j q h e = absurd (omega arith)
stay (x ∷ (y ∷ l)) k zero q h e = absurd (omega arith)
stay (x ∷ (y ∷ l)) zero (suc zero) q h e = ap (λ (b : Bool). b && ascends (y ∷ l)) e
stay (x ∷ (y ∷ l)) zero (suc (suc j)) q h e = absurd (omega arith)
stay (x ∷ (y ∷ l)) (suc k) (suc j) q h e = ap (λ (b : Bool). ltb x y && b) (stay (y ∷ l) k j (omega arith) (omega arith) e) ∙ no (ltb x y)
  where
    no : (b : Bool) → (b && false) ≡ false
    no true = refl
    no false = refl

pub ascends_is : (l : List ℕ) (r : Bool) → IsAllAdjacentAnswer (λ x y b. b ≡ ltb x y) l r → r ≡ ascends l
ascends_is l true f = sym (rise l (λ k d h. sym (f k d h)))
ascends_is l false (k, h, f) = sym (stay l k (k + 1) refl h (sym (f 0)))

-- ---- offsets

pub sorted_every : (l : List ℕ) (n : ℕ) (r : Bool) → n < length l
    → MatchBool r (IsNonDecreasing (take (n + 1) l)) ((k : ℕ) × (k + 1 < length (take (n + 1) l)) × ((d : ℕ) → get_or (take (n + 1) l) (k + 1) d < get_or (take (n + 1) l) k d))
    → r ≡ every (λ s. leb (get_or l s 0) (get_or l (s + 1) 0)) n
sorted_every l n true h f = sym (every_of (λ s. leb (get_or l s 0) (get_or l (s + 1) 0)) n (λ k b.
    let z = length-take-le (n + 1) l (omega arith) in
    let p = get_or-take (n + 1) l k 0 (omega arith) in
    let q = get_or-take (n + 1) l (k + 1) 0 (omega arith) in
    let o = f k (k + 1) 0 (omega arith) (omega arith) in
    le-leb _ _ (omega arith)))
sorted_every l n false h (k, b, f) = sym (every_not (λ s. leb (get_or l s 0) (get_or l (s + 1) 0)) n k
    (let z = length-take-le (n + 1) l (omega arith) in omega arith)
    (let z = length-take-le (n + 1) l (omega arith) in
    let p = get_or-take (n + 1) l k 0 (omega arith) in
    let q = get_or-take (n + 1) l (k + 1) 0 (omega arith) in
    let o = f 0 in
    lt-leb _ _ (omega arith)))
