-- Rows laid out one after the other, and where each begins: what one row more changes.
use mathlib.Core.Path.{◌≡◌, refl, sym, ap, ◌∙◌}
use Prim.Native.Nat.{ℕ, zero, suc, ◌+◌, ◌-◌, ◌≤◌, ◌<◌}
use mathlib.Core.List.{List, [], ◌∷◌, ◌++◌, map-append, append-nil, append_assoc}
use native.Mathlib.Omega.{arith}
use native.Mathlib.Numerals.{add-one}
use lib.Ieee.{Float}
use lib.ListN.{length, get_or, take, drop, length-append, length-drop, drop_of_length-le}
use lib.Seq.{take-suc, take_all, take_at, drop_at, drop-drop}
use Rattle.numbers.specs.Lists.{over}
use Rattle.epsdelta_theory.specs.Jumps.{Jump, targets, rates}
use Rattle.chain_theory.specs.Columns.{starts_from, joined}
use Rattle.parts.proofs.Lent.{part, back}
use Rattle.parts.proofs.Laid.{targets_length, rates_length}

joined_append : (R S : List (List Jump)) → joined (R ++ S) ≡ joined R ++ joined S
unfolding joined
joined_append [] S = refl
joined_append (r ∷ R) S = ap (λ (l : List Jump). r ++ l) (joined_append R S) ∙ sym (append_assoc r (joined R) (joined S))

-- the rows up to s, and row s
pub joined_next : (R : List (List Jump)) (s : ℕ) → s < length R → joined (take (suc s) R) ≡ joined (take s R) ++ get_or R s []
unfolding joined
joined_next R s h = ap joined (take-suc R s [] h) ∙ joined_append (take s R) (get_or R s [] ∷ []) ∙ ap (λ (l : List Jump). joined (take s R) ++ l) (append-nil (get_or R s []))

pub starts_length : (x : ℕ) (R : List (List Jump)) → length (starts_from x R) ≡ suc (length R)
unfolding starts_from
starts_length x [] = refl
starts_length x (r ∷ R) = ap suc (starts_length (x + length r) R)

-- row s begins where the rows before it end
pub starts_at : (x : ℕ) (R : List (List Jump)) (s : ℕ) → s ≤ length R → get_or (starts_from x R) s 0 ≡ x + length (joined (take s R))
unfolding starts_from joined
starts_at x [] zero h = omega arith
starts_at x [] (suc s) h = absurd (omega arith)
starts_at x (r ∷ R) zero h = omega arith
starts_at x (r ∷ R) (suc s) h = starts_at (x + length r) R s (omega arith) ∙ (let e = length-append r (joined (take s R)) in omega arith)

-- ---- a part of a list from place a on, lent and put back, where what is put back is l over it

module _ {A : Type 0} where
  pub over_back : (k l d y x : List A) (a : ℕ) → a ≡ length k → x ≡ over k d → y ≡ over l (part a x) → back a x y ≡ over (k ++ l) d
  over_back k l d y x a e f g =
      let p : part a x ≡ drop a x = take_all (length x - a) (drop a x) (let q = length-drop a x in omega arith) in
      let n : drop (length x - a) (drop a x) ≡ [] = let q = length-drop a x in let r : length (drop a x) ≤ length x - a = omega arith in drop_of_length-le (drop a x) r in
      let t : take a x ≡ k = ap (take a) f ∙ take_at k (drop (length k) d) a (sym e) in
      let u : drop a x ≡ drop (length k) d = ap (drop a) f ∙ drop_at k (drop (length k) d) a (sym e) in
      let z : length k + length l ≡ length (k ++ l) = sym (length-append k l) in
      ap (λ (r : List A). take a x ++ (y ++ r)) n
      ∙ ap (λ (r : List A). take a x ++ r) (append-nil y)
      ∙ ap (λ (r : List A). r ++ y) t
      ∙ ap (λ (r : List A). k ++ r) (g ∙ ap (λ (r : List A). over l r) (p ∙ u) ∙ ap (λ (r : List A). l ++ r) (drop-drop (length l) (length k) d ∙ ap (λ (m : ℕ). drop m d) z))
      ∙ sym (append_assoc k l (drop (length (k ++ l)) d))

-- ---- rows in the lists: the first s of R

pub record RowsTo (R : List (List Jump)) (s end : ℕ) (T₀ : List ℕ) (P₀ : List Float) (T : List ℕ) (P : List Float) : Type 0 where
  pub ends : end ≡ length (joined (take s R))
  pub in_targets : T ≡ over (targets (joined (take s R))) T₀
  pub in_rates : P ≡ over (rates (joined (take s R))) P₀

pub rows_none : (R : List (List Jump)) (T : List ℕ) (P : List Float) → RowsTo R 0 0 T P T P
unfolding joined
rows_none R T P = record { ends = refl; in_targets = refl; in_rates = refl }

-- row s is made in the parts of the lists from place `end` on
pub rows_next : {R : List (List Jump)} {s end : ℕ} {T₀ : List ℕ} {P₀ : List Float} {T : List ℕ} {P : List Float} → RowsTo R s end T₀ P₀ T P → s < length R
    → (m : ℕ) (T' : List ℕ) (P' : List Float) → m ≡ length (get_or R s []) → T' ≡ over (targets (get_or R s [])) (part end T) → P' ≡ over (rates (get_or R s [])) (part end P)
    → RowsTo R (s + 1) (end + m) T₀ P₀ (back end T T') (back end P P')
rows_next {R} {s} {end} {T₀} {P₀} {T} {P} I h m T' P' e t p =
    let J = joined (take s R) in
    let r = get_or R s [] in
    let n = joined_next R s h in
    let a = I.ends in
    rw add-one (record {
      ends = (let q = length-append J r in let z : end + m ≡ length (J ++ r) = omega arith in z ∙ ap length (sym n));
      in_targets = over_back (targets J) (targets r) T₀ T' T end (a ∙ sym (targets_length J)) I.in_targets t ∙ ap (λ (l : List ℕ). over l T₀) (sym (map-append (λ (j : Jump). j.target) J r) ∙ ap targets (sym n));
      in_rates = over_back (rates J) (rates r) P₀ P' P end (a ∙ sym (rates_length J)) I.in_rates p ∙ ap (λ (l : List Float). over l P₀) (sym (map-append (λ (j : Jump). j.rate) J r) ∙ ap rates (sym n));
    })

-- all of them
pub rows_all : {R : List (List Jump)} {s end : ℕ} {T₀ : List ℕ} {P₀ : List Float} {T : List ℕ} {P : List Float} → RowsTo R s end T₀ P₀ T P → s ≡ length R
    → (end ≡ length (joined R)) × (T ≡ over (targets (joined R)) T₀) × (P ≡ over (rates (joined R)) P₀)
rows_all {R} {s} {end} {T₀} {P₀} {T} {P} I e =
    let z : take s R ≡ R = take_all s R (omega arith) in
    (I.ends ∙ ap (λ (l : List (List Jump)). length (joined l)) z, I.in_targets ∙ ap (λ (l : List (List Jump)). over (targets (joined l)) T₀) z, I.in_rates ∙ ap (λ (l : List (List Jump)). over (rates (joined l)) P₀) z)
