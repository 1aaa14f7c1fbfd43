-- Which fault is met first: 2 exactly where a model is too large before any fault of layout, else 1.
use mathlib.Core.Path.{◌≡◌, refl, sym, ap, ◌∙◌}
use mathlib.Core.Bool.{Bool, true, false, ◌&&◌, ◌||◌, not, cond, false≢true}
use mathlib.Core.List.{List}
use Prim.Native.Nat.{ℕ, zero, suc}
use native.Mathlib.Omega.{arith}
use lib.Dec.{eqb, ltb}
use lib.ListN.{length}
use Rattle.numbers.specs.Refuse.{check}
use Rattle.numbers.proofs.Refuses.{first}
use Rattle.card_layout.specs.Layout.{laid}
use Rattle.card_layout.specs.Card.{refused, outcome, read, states, count, class_part, transition_part, after_side, last_part, large, side_fault, last_fault, fault, card_in}
use Rattle.card_layout.specs.Claim.{too_large, large_first}
use Rattle.card_layout.proofs.Cards.{fault_parts}

-- a model that is not too large has no fault, or 1
side_is : (bs : List ℕ) → side_fault bs 0 ≡ cond (too_large bs) 2 (cond (laid 1 3 bs && (laid (states bs) 1 (class_part bs) && laid (count bs) 4 (transition_part bs))) 0 1)
unfolding side_fault
side_is bs = four (laid 1 3 bs) (large bs) (laid (states bs) 1 (class_part bs)) (laid (count bs) 4 (transition_part bs))
  where
    four : (a b d e : Bool) → check 1 (not a) (check 2 b (check 1 (not d) (check 1 (not e) 0))) ≡ cond (a && b) 2 (cond (a && (d && e)) 0 1)
    four false b d e = refl
    four true true d e = refl
    four true false false e = refl
    four true false true false = refl
    four true false true true = refl

last_is : (bs : List ℕ) → last_fault bs ≡ cond (laid 1 2 bs && not (ltb 13 (length bs))) 0 1
unfolding last_fault
last_is bs = two (laid 1 2 bs) (ltb 13 (length bs))
  where
    two : (a b : Bool) → check 1 (not a) (check 1 b 0) ≡ cond (a && not b) 0 1
    two false b = refl
    two true true = refl
    two true false = refl

-- the first fault: the left model is too large, or has no other fault; so is the right model; and the end
abbrev found : Bool → Bool → Bool → Bool → Bool → ℕ
found p q r s t = first (cond p 2 (cond q 0 1)) (first (cond r 2 (cond s 0 1)) (cond t 0 1))

abbrev early : Bool → Bool → Bool → Bool
early p q r = p || (eqb (cond p 2 (cond q 0 1)) 0 && r)

found_which : (p q r s t : Bool) (n : ℕ) → found p q r s t ≡ suc n → suc n ≡ cond (early p q r) 2 1
found_which true q r s t n e = sym e
found_which false false r s t n e = sym e
found_which false true true s t n e = sym e
found_which false true false false t n e = sym e
found_which false true false true false n e = sym e
found_which false true false true true n e = absurd (omega arith)

found_early : (p q r s t : Bool) → early p q r ≡ true → found p q r s t ≡ 2
found_early true q r s t e = refl
found_early false false r s t e = absurd (false≢true e)
found_early false true true s t e = refl
found_early false true false s t e = absurd (false≢true e)

module _ (bs : List ℕ) where
  abbrev whole : List ℕ → Bool
  whole x = laid 1 3 x && (laid (states x) 1 (class_part x) && laid (count x) 4 (transition_part x))

  abbrev ended : Bool
  ended = laid 1 2 (last_part bs) && not (ltb 13 (length (last_part bs)))

  fault_is : fault bs ≡ found (too_large bs) (whole bs) (too_large (after_side bs)) (whole (after_side bs)) ended
  fault_is =
      fault_parts bs ∙ ap (λ (n : ℕ). first n (first (side_fault (after_side bs) 0) (last_fault (last_part bs)))) (side_is bs)
      ∙ ap (λ (n : ℕ). first (cond (too_large bs) 2 (cond (whole bs) 0 1)) (first n (last_fault (last_part bs)))) (side_is (after_side bs))
      ∙ ap (λ (n : ℕ). first (cond (too_large bs) 2 (cond (whole bs) 0 1)) (first (cond (too_large (after_side bs)) 2 (cond (whole (after_side bs)) 0 1)) n)) (last_is (last_part bs))

  early_is : large_first bs ≡ early (too_large bs) (whole bs) (too_large (after_side bs))
  early_is = ap (λ (n : ℕ). too_large bs || (eqb n 0 && too_large (after_side bs))) (side_is bs)

  pub which : (n : ℕ) → read bs ≡ refused n → n ≡ cond (large_first bs) 2 1
  unfolding read
  which n e = pick (fault bs) refl e
    where
      pick : (m : ℕ) → fault bs ≡ m → outcome m (card_in bs) ≡ refused n → n ≡ cond (large_first bs) 2 1
      pick zero f d = absurd (let z : ◌≡◌ {A = ℕ} 0 1 = cc in omega arith)
      pick (suc m) f d =
          let z : n ≡ suc m = cc in
          z ∙ found_which (too_large bs) (whole bs) (too_large (after_side bs)) (whole (after_side bs)) ended m (sym fault_is ∙ f) ∙ ap (λ (b : Bool). cond b 2 1) (sym early_is)

  pub too_large_lem : large_first bs ≡ true → read bs ≡ refused 2
  unfolding read
  too_large_lem e =
      ap (λ (n : ℕ). outcome n (card_in bs)) (fault_is ∙ found_early (too_large bs) (whole bs) (too_large (after_side bs)) (whole (after_side bs)) ended (sym early_is ∙ e))
