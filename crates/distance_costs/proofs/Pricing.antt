-- The turns of the loop over the pairs, and that the costs of a run are the definition's.
use mathlib.Core.Path.{◌≡◌, sym, ap, ap₂, ◌∙◌}
use Prim.Native.Nat.{ℕ, ◌+◌, ◌≤◌, ◌<◌}
use mathlib.Core.Bool.{Bool, true, false, not, ◌&&◌}
use mathlib.Core.List.{List, [], ◌∷◌, ◌++◌, map, append-nil}
use native.Mathlib.Omega.{arith}
use lib.Dec.{leb}
use lib.ListN.{length, get_or, set, take, drop, length-map, drop_of_length-le}
use lib.Seq.{ext_get_or, get_or-take}
use lib.Ieee.{Float, nan, binary64, sub, mul}
use borrow.Author.Tests.{leb-true, le-leb, not-true, not-false}
use Rattle.numbers.specs.Real.{one}
use Rattle.numbers.specs.Choice.{apart}
use Rattle.numbers.specs.Lists.{span, all}
use Rattle.numbers.proofs.Bools.{and_t}
use Rattle.numbers.proofs.Spans.{span_length}
use Rattle.numbers.proofs.Over.{over, over_next, over_done}
use Rattle.epsdelta_theory.proofs.Rows.{at_map_span}
use Rattle.chain_theory.specs.Chain.{Chain}
use Rattle.chain_theory.specs.declared.Chain.{Chain as Lent}
use Rattle.distance_theory.specs.declared.lent.Pairs.{Pairs}
use Rattle.distance_theory.specs.Pairs.{Pair, pair, pair_at}
use Rattle.distance_theory.specs.Couplings.{cost_of}
use Rattle.distance_theory.proofs.Crossings.{map_at}
use Rattle.distance_theory.proofs.Longs.{all_one, all_more}
use Rattle.distance_words.proofs.Costs.{cost_at, costs, Priced, priced, counted, priced_if}

module _ (l r : List ℕ) (u w : List Float) (γ : Float) (n : ℕ) where
  pub costs_length : length (costs l r u w γ n) ≡ n
  costs_length = length-map (span 0 n) (cost_at l r u w γ) ∙ span_length 0 n

  pub costs_at : (k : ℕ) → k < n → get_or (costs l r u w γ n) k nan ≡ cost_at l r u w γ k
  costs_at k h = at_map_span (cost_at l r u w γ) 0 n k nan h ∙ ap (cost_at l r u w γ) (let e : 0 + k ≡ k = omega arith in e)

-- of lent pairs and chains
abbrev pub costs_of : Pairs → Lent → Lent → Float → List Float
costs_of P L R γ = costs P.lefts.now P.rights.now L.observations.now R.observations.now γ (length P.lefts.now)

pub costs_size : (P : Pairs) (L R : Lent) (γ : Float) → length (costs_of P L R γ) ≡ length P.lefts.now
costs_size P L R γ = costs_length P.lefts.now P.rights.now L.observations.now R.observations.now γ (length P.lefts.now)

module _ (P : Pairs) (L R : Lent) (γ : Float) (c₀ c : List Float) (k : ℕ) (e : c ≡ over (costs_of P L R γ) k c₀) where
  -- a turn
  pub cost_next : (x y d : Float) → x ≡ get_or L.observations.now (get_or P.lefts.now k 0) nan → y ≡ get_or R.observations.now (get_or P.rights.now k 0) nan → d ≡ apart x y → k < length P.lefts.now → length c₀ ≡ length P.lefts.now
      → set c k (mul binary64 (sub binary64 one γ) d) ≡ over (costs_of P L R γ) (k + 1) c₀
  cost_next x y d ex ey ed h z =
      let a = costs_size P L R γ in
      over_next (costs_of P L R γ) c₀ c k nan (mul binary64 (sub binary64 one γ) d) e
      (ap (mul binary64 (sub binary64 one γ)) (ed ∙ ap₂ apart ex ey) ∙ sym (costs_at P.lefts.now P.rights.now L.observations.now R.observations.now γ (length P.lefts.now) k h)) (omega arith) (omega arith)

  -- the list is written whole
  pub cost_done : k ≡ length P.lefts.now → length c₀ ≡ length P.lefts.now → c ≡ costs_of P L R γ
  cost_done h z =
      let a = costs_size P L R γ in
      over_done (costs_of P L R γ) c₀ c k e (omega arith) ∙ ap (λ (t : List Float). costs_of P L R γ ++ t) (drop_of_length-le c₀ {i = length (costs_of P L R γ)} (omega arith)) ∙ append-nil (costs_of P L R γ)

-- ---- the check of the counts

counted_is : (n rights cost : ℕ) → all (leb n) (rights ∷ cost ∷ []) ≡ counted n n rights cost
counted_is n rights cost =
    all_more (leb n) rights (cost ∷ []) (leb n cost) (all_one (leb n) cost)
    ∙ ap (λ (b : Bool). b && (leb n rights && leb n cost)) (sym (le-leb n n (omega arith)))

module _ (P : Pairs) (old : List Float) {b : Bool} (f : b ≡ all (leb (length P.lefts.now)) (length P.rights.now ∷ length old ∷ [])) where
  e : b ≡ counted (length P.lefts.now) (length P.lefts.now) (length P.rights.now) (length old)
  e = f ∙ counted_is (length P.lefts.now) (length P.rights.now) (length old)

  pub counts_known : not b ≡ false → (length P.lefts.now ≤ length P.rights.now) × (length P.lefts.now ≤ length old)
  counts_known h =
      let (a₁, r₁) = and_t (leb (length P.lefts.now) (length P.lefts.now)) _ (sym e ∙ not-false b h) in
      let (a₂, a₃) = and_t (leb (length P.lefts.now) (length P.rights.now)) _ r₁ in
      (leb-true _ _ a₂, leb-true _ _ a₃)

  module _ (L R : Lent) (γ : Float) where
    abbrev to : Bool → Priced
    to t = priced_if t (costs_of P L R γ) old

    pub uncounted : not b ≡ true → priced false old ≡ to (counted (length P.lefts.now) (length P.lefts.now) (length P.rights.now) (length old))
    uncounted h = ap to (sym (not-true b h) ∙ e)

    -- the front of the list is put back
    pub counting : not b ≡ false → (c : List Float) → c ≡ costs_of P L R γ → priced true (c ++ drop (length P.lefts.now) old) ≡ to (counted (length P.lefts.now) (length P.lefts.now) (length P.rights.now) (length old))
    counting h c q =
        ap (λ (t : List Float). priced true (t ++ drop (length P.lefts.now) old)) q
        ∙ ap (λ (i : ℕ). priced true (costs_of P L R γ ++ drop i old)) (sym (costs_size P L R γ))
        ∙ ap to (sym (not-false b h) ∙ e)

-- ---- the costs of a run

-- pairs that were found, of states that have an observation
pub costs_are : (A B : Chain) (γ : Float) (found : List Pair) (l r : List ℕ) (u w : List Float)
    → ((k : ℕ) → k < length found → (get_or l k 0 ≡ (pair_at found k).left) × (get_or r k 0 ≡ (pair_at found k).right) × ((pair_at found k).left < length A.observations) × ((pair_at found k).right < length B.observations))
    → take (length A.observations) u ≡ A.observations → take (length B.observations) w ≡ B.observations
    → costs l r u w γ (length found) ≡ map (cost_of A B γ) found
costs_are A B γ found l r u w f eu ew =
    let a = costs_length l r u w γ (length found) in
    let b = length-map found (cost_of A B γ) in
    ext_get_or nan (costs l r u w γ (length found)) (map (cost_of A B γ) found) (omega arith)
    (λ k h. let j : k < length found = omega arith in let (x, y, p, q) = f k j in
    costs_at l r u w γ (length found) k j
    ∙ ap₂ (λ (i o : ℕ). mul binary64 (sub binary64 one γ) (apart (get_or u i nan) (get_or w o nan))) x y
    ∙ ap₂ (λ (i o : Float). mul binary64 (sub binary64 one γ) (apart i o))
    (sym (get_or-take (length A.observations) u (pair_at found k).left nan p) ∙ ap (λ (z : List Float). get_or z (pair_at found k).left nan) eu)
    (sym (get_or-take (length B.observations) w (pair_at found k).right nan q) ∙ ap (λ (z : List Float). get_or z (pair_at found k).right nan) ew)
    ∙ sym (map_at (cost_of A B γ) found k nan (pair 0 0) j))
