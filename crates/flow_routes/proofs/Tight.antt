-- Labels bound distances, and where they fall along a link it is told by the lists: which link is the first of a node, in the order of the code's searches.
use mathlib.Core.Path.{◌≡◌, refl, sym, ap, subst⁻¹, ◌∙◌}
use Prim.Native.Nat.{ℕ, suc, ◌≤◌, ◌<◌, ◌+◌, ◌*◌}
use mathlib.Core.Bool.{Bool, true, false, true≢false}
use mathlib.Core.Logic.{◌≢◌, ◌⊎◌, inl, inr}
use mathlib.Core.List.{List, [], ◌∷◌}
use native.Mathlib.Omega.{arith}
use lib.ListN.{length, get_or}
use lib.Ieee.{Float, nan, inf, lt, of_bits, of_fields}
use Rattle.numbers.specs.Real.{eps}
use Rattle.numbers.proofs.Bools.{lt_or_ge, eq_or_ne}
use Rattle.flow_theory.specs.Network.{Net, head, tail, left, residual}
use Rattle.flow_theory.proofs.Links.{residual_in}
use Rattle.flow_theory.proofs.Pushes.{residual_lt}
use Rattle.epsdelta_theory.specs.Jumps.{Jump}
use Rattle.epsdelta_theory.specs.FlowTest.{network_between}
use Rattle.flow_routes.proofs.Shortest.{Bounding, First, Route}
use Rattle.flow_routes.proofs.Numbered.{held, source_link, sink_link, cross_link, source_head, source_tail, source_back_head, source_back_tail, sink_head, sink_tail, sink_back_tail, cross_head, cross_tail, cross_back_head, cross_back_tail, cross_right, cross_down, Kind, kind}
use Rattle.flow_routes.proofs.Labelled.{Mapped, Labels, dist, dist_left, dist_right, dist_source, dist_sink}

above_inf : lt eps (inf false) ≡ true
unfolding lt of_bits of_fields
above_inf = refl

module _ (m : ℕ) (R : List Bool) (ps pt : List Jump) {c A B F : List Float} (M : Mapped m R ps pt c A B F) {l r : ℕ → ℕ} {s : ℕ} (I : Labels m R ps pt A B F l r s) where
  abbrev a : ℕ
  a = length ps

  abbrev b : ℕ
  b = length pt

  abbrev net : Net
  net = network_between m R ps pt

  abbrev D : ℕ → ℕ
  D = dist m R ps pt l r s

  -- what is left of each link is told by the lists
  module _ (e : ℕ) (on : lt eps (left c e) ≡ true) where
    at : (f : ℕ) → e ≡ f → lt eps (left c f) ≡ true
    at f z = ap (λ (y : ℕ). lt eps (left c y)) (sym z) ∙ on

    source_on : (i : ℕ) → i < a → e ≡ source_link m R ps pt i → lt eps (get_or A i nan) ≡ true
    source_on i h z = ap (lt eps) (sym (M.source i h)) ∙ at (source_link m R ps pt i) z

    sink_on : (k : ℕ) → k < b → e ≡ sink_link m R ps pt k → lt eps (get_or B k nan) ≡ true
    sink_on k h z = ap (lt eps) (sym (M.sink k h)) ∙ at (sink_link m R ps pt k) z

    back_on : (i k : ℕ) → i < a → k < b → held m R ps pt i k ≡ true → e ≡ suc (cross_link m R ps pt i k) → lt eps (get_or F (i * b + k) nan) ≡ true
    back_on i k h g t z = ap (lt eps) (sym (M.back i k h g t)) ∙ at (suc (cross_link m R ps pt i k)) z

  known : (e : ℕ) → residual c e ≡ true → Kind m R ps pt e
  known e o = kind m R ps pt e (rw (← M.size) (residual_in c e o))

  falls : (e : ℕ) → lt eps (left c e) ≡ true → Kind m R ps pt e → D (tail net e) ≤ suc (D (head net e))
  falls e t (inl (i, h, inl z)) =
      let f = dist_source m R ps pt l r s (tail net e) (ap (λ (y : ℕ). tail net y) z ∙ source_tail m R ps pt i h) in
      let g = dist_left m R ps pt l r s (head net e) i (ap (head net) z ∙ source_head m R ps pt i h) h in
      let w = I.source i h (source_on e t i h z) in
      omega arith
  falls e t (inl (i, h, inr z)) =
      let f = dist_left m R ps pt l r s (tail net e) i (ap (λ (y : ℕ). tail net y) z ∙ source_back_tail m R ps pt i h) h in
      let g = dist_source m R ps pt l r s (head net e) (ap (head net) z ∙ source_back_head m R ps pt i h) in
      let w = I.low i h in
      omega arith
  falls e t (inr (inl (k, h, inl z))) =
      let f = dist_right m R ps pt l r s (tail net e) k (ap (λ (y : ℕ). tail net y) z ∙ sink_tail m R ps pt k h) h in
      let w = I.sink k h (sink_on e t k h z) in
      omega arith
  falls e t (inr (inl (k, h, inr z))) =
      let f = dist_sink m R ps pt l r s (tail net e) (ap (λ (y : ℕ). tail net y) z ∙ sink_back_tail m R ps pt k h) in
      omega arith
  falls e t (inr (inr (i, k, h, g, u, inl z))) =
      let f = dist_left m R ps pt l r s (tail net e) i (ap (λ (y : ℕ). tail net y) z ∙ cross_tail m R ps pt i k h g u) h in
      let j = dist_right m R ps pt l r s (head net e) k (ap (head net) z ∙ cross_head m R ps pt i k h g u) g in
      let w = I.forth i k h g u in
      omega arith
  falls e t (inr (inr (i, k, h, g, u, inr z))) =
      let f = dist_right m R ps pt l r s (tail net e) k (ap (λ (y : ℕ). tail net y) z ∙ cross_back_tail m R ps pt i k h g u) g in
      let j = dist_left m R ps pt l r s (head net e) i (ap (head net) z ∙ cross_back_head m R ps pt i k h g u) h in
      let w = I.back i k h g u (back_on e t i k h g u z) in
      omega arith

  pub bounding : Bounding (network_between m R ps pt) c (dist m R ps pt l r s)
  bounding = record { sink = dist_sink m R ps pt l r s (suc (a + b)) refl; falls = λ e o. falls e (residual_lt c e o) (known e o) }

  on_source : (i : ℕ) → i < a → lt eps (get_or A i nan) ≡ true → residual c (source_link m R ps pt i) ≡ true
  unfolding residual
  on_source i h o = ap (lt eps) (M.source i h) ∙ o

  on_sink : (k : ℕ) → k < b → lt eps (get_or B k nan) ≡ true → residual c (sink_link m R ps pt k) ≡ true
  unfolding residual
  on_sink k h o = ap (lt eps) (M.sink k h) ∙ o

  on_cross : (i k : ℕ) → i < a → k < b → held m R ps pt i k ≡ true → residual c (cross_link m R ps pt i k) ≡ true
  unfolding residual
  on_cross i k h g t = ap (lt eps) (M.cross i k h g t) ∙ above_inf

  on_back : (i k : ℕ) → i < a → k < b → held m R ps pt i k ≡ true → lt eps (get_or F (i * b + k) nan) ≡ true → residual c (suc (cross_link m R ps pt i k)) ≡ true
  unfolding residual
  on_back i k h g t o = ap (lt eps) (M.back i k h g t) ∙ o

  -- ---- the first link of the source: to the first i with rate left and the source's label
  module _ (i : ℕ) (h : i < a) (o : lt eps (get_or A i nan) ≡ true) (z : l i ≡ s) (none : (j : ℕ) → j < i → lt eps (get_or A j nan) ≡ true → l j ≢ s) where
    source_least : (f : ℕ) → tail net f ≡ a + b → lt eps (left c f) ≡ true → D (a + b) ≡ suc (D (head net f)) → Kind m R ps pt f → source_link m R ps pt i ≤ f
    source_least f q t w (inl (j, g, inl y)) = pick (lt_or_ge j i)
      where
        pick : (j < i) ⊎ (i ≤ j) → source_link m R ps pt i ≤ f
        pick (inl k) =
            let d = none j k (source_on f t j g y) in
            let u = dist_source m R ps pt l r s (a + b) refl in
            let v = dist_left m R ps pt l r s (head net f) j (ap (head net) y ∙ source_head m R ps pt j g) g in
            absurd (omega arith)
        pick (inr k) = omega arith
    source_least f q t w (inl (j, g, inr y)) = let u : tail net f ≡ j = ap (λ (x : ℕ). tail net x) y ∙ source_back_tail m R ps pt j g in absurd (omega arith)
    source_least f q t w (inr (inl (k, g, inl y))) = let u : tail net f ≡ a + k = ap (λ (x : ℕ). tail net x) y ∙ sink_tail m R ps pt k g in absurd (omega arith)
    source_least f q t w (inr (inl (k, g, inr y))) = let u : tail net f ≡ suc (a + b) = ap (λ (x : ℕ). tail net x) y ∙ sink_back_tail m R ps pt k g in absurd (omega arith)
    source_least f q t w (inr (inr (j, k, g, g', u, inl y))) = let v : tail net f ≡ j = ap (λ (x : ℕ). tail net x) y ∙ cross_tail m R ps pt j k g g' u in absurd (omega arith)
    source_least f q t w (inr (inr (j, k, g, g', u, inr y))) = let v : tail net f ≡ a + k = ap (λ (x : ℕ). tail net x) y ∙ cross_back_tail m R ps pt j k g g' u in absurd (omega arith)

    pub first_source : First (network_between m R ps pt) c (dist m R ps pt l r s) (length ps + length pt) (source_link m R ps pt i)
    first_source =
        let u = dist_source m R ps pt l r s (a + b) refl in
        let v = dist_left m R ps pt l r s (head net (source_link m R ps pt i)) i (source_head m R ps pt i h) h in
        record {
          from = source_tail m R ps pt i h;
          on = on_source i h o;
          nearer = omega arith;
          least = λ f q e w. source_least f q (residual_lt c f e) w (known f e);
        }

  -- ---- the first link of i: to the first k that is held with it and has its label
  module _ (i k : ℕ) (h : i < a) (g : k < b) (t : held m R ps pt i k ≡ true) (z : r k ≡ l i) (low : l i ≤ s) (none : (j : ℕ) → j < k → held m R ps pt i j ≡ true → r j ≢ l i) where
    left_least : (f : ℕ) → tail net f ≡ i → D i ≡ suc (D (head net f)) → Kind m R ps pt f → cross_link m R ps pt i k ≤ f
    left_least f q w (inl (j, e, inl y)) = let u : tail net f ≡ a + b = ap (λ (x : ℕ). tail net x) y ∙ source_tail m R ps pt j e in absurd (omega arith)
    left_least f q w (inl (j, e, inr y)) =
        let u = dist_left m R ps pt l r s i i refl h in
        let v = dist_source m R ps pt l r s (head net f) (ap (head net) y ∙ source_back_head m R ps pt j e) in
        absurd (omega arith)
    left_least f q w (inr (inl (j, e, inl y))) = let u : tail net f ≡ a + j = ap (λ (x : ℕ). tail net x) y ∙ sink_tail m R ps pt j e in absurd (omega arith)
    left_least f q w (inr (inl (j, e, inr y))) = let u : tail net f ≡ suc (a + b) = ap (λ (x : ℕ). tail net x) y ∙ sink_back_tail m R ps pt j e in absurd (omega arith)
    left_least f q w (inr (inr (p, j, e, e', u, inl y))) = pick (lt_or_ge j k) (eq_or_ne j k)
      where
        same : p ≡ i
        same = sym (ap (λ (x : ℕ). tail net x) y ∙ cross_tail m R ps pt p j e e' u) ∙ q

        here : held m R ps pt i j ≡ true
        here = ap (λ (x : ℕ). held m R ps pt x j) (sym same) ∙ u

        number : cross_link m R ps pt p j ≡ cross_link m R ps pt i j
        number = ap (λ (x : ℕ). cross_link m R ps pt x j) same

        pick : (j < k) ⊎ (k ≤ j) → (j ≡ k) ⊎ (j ≢ k) → cross_link m R ps pt i k ≤ f
        pick (inl x) d =
            let n = none j x here in
            let o = I.some j e' in
            let u' = dist_left m R ps pt l r s i i refl h in
            let v = dist_right m R ps pt l r s (head net f) j (ap (head net) y ∙ cross_head m R ps pt p j e e' u) e' in
            absurd (omega arith)
        pick (inr x) (inl d) = let n = number in let n' = ap (λ (x : ℕ). cross_link m R ps pt i x) d in omega arith
        pick (inr x) (inr d) = let n = number in let n' = cross_right m R ps pt i k j h (omega arith) g t in omega arith
    left_least f q w (inr (inr (p, j, e, e', u, inr y))) = let v : tail net f ≡ a + j = ap (λ (x : ℕ). tail net x) y ∙ cross_back_tail m R ps pt p j e e' u in absurd (omega arith)

    pub first_left : First (network_between m R ps pt) c (dist m R ps pt l r s) i (cross_link m R ps pt i k)
    first_left =
        let o = I.some k g in
        let u = dist_left m R ps pt l r s i i refl h in
        let v = dist_right m R ps pt l r s (head net (cross_link m R ps pt i k)) k (cross_head m R ps pt i k h g t) g in
        record {
          from = cross_tail m R ps pt i k h g t;
          on = on_cross i k h g t;
          nearer = omega arith;
          least = λ f q e w. left_least f q w (known f e);
        }

  -- ---- the first link of k is the one to the sink, if anything is left of it
  module _ (k : ℕ) (g : k < b) (o : lt eps (get_or B k nan) ≡ true) where
    sink_least : (f : ℕ) → tail net f ≡ a + k → Kind m R ps pt f → sink_link m R ps pt k ≤ f
    sink_least f q (inl (j, e, inl y)) = let u : tail net f ≡ a + b = ap (λ (x : ℕ). tail net x) y ∙ source_tail m R ps pt j e in absurd (omega arith)
    sink_least f q (inl (j, e, inr y)) = let u : tail net f ≡ j = ap (λ (x : ℕ). tail net x) y ∙ source_back_tail m R ps pt j e in absurd (omega arith)
    sink_least f q (inr (inl (j, e, inl y))) = let u : tail net f ≡ a + j = ap (λ (x : ℕ). tail net x) y ∙ sink_tail m R ps pt j e in omega arith
    sink_least f q (inr (inl (j, e, inr y))) = let u : tail net f ≡ suc (a + b) = ap (λ (x : ℕ). tail net x) y ∙ sink_back_tail m R ps pt j e in absurd (omega arith)
    sink_least f q (inr (inr (p, j, e, e', u, inl y))) = let v : tail net f ≡ p = ap (λ (x : ℕ). tail net x) y ∙ cross_tail m R ps pt p j e e' u in absurd (omega arith)
    sink_least f q (inr (inr (p, j, e, e', u, inr y))) = omega arith

    pub first_sink : First (network_between m R ps pt) c (dist m R ps pt l r s) (length ps + k) (sink_link m R ps pt k)
    first_sink =
        let w = I.some k g in
        let w' = I.sink k g o in
        let u = dist_right m R ps pt l r s (a + k) k refl g in
        let v = dist_sink m R ps pt l r s (head net (sink_link m R ps pt k)) (sink_head m R ps pt k g) in
        record {
          from = sink_tail m R ps pt k g;
          on = on_sink k g o;
          nearer = omega arith;
          least = λ f q e w. sink_least f q (known f e);
        }

  -- ---- else it is the one back to the first i that has something to take back and a label lower by 1
  module _ (i k : ℕ) (h : i < a) (g : k < b) (t : held m R ps pt i k ≡ true) (off : lt eps (get_or B k nan) ≡ false) (o : lt eps (get_or F (i * b + k) nan) ≡ true) (z : suc (l i) ≡ r k)
      (none : (j : ℕ) → j < i → held m R ps pt j k ≡ true → lt eps (get_or F (j * b + k) nan) ≡ true → suc (l j) ≢ r k) where
    right_least : (f : ℕ) → tail net f ≡ a + k → lt eps (left c f) ≡ true → D (a + k) ≡ suc (D (head net f)) → Kind m R ps pt f → suc (cross_link m R ps pt i k) ≤ f
    right_least f q x w (inl (j, e, inl y)) = let u : tail net f ≡ a + b = ap (λ (x : ℕ). tail net x) y ∙ source_tail m R ps pt j e in absurd (omega arith)
    right_least f q x w (inl (j, e, inr y)) = let u : tail net f ≡ j = ap (λ (x : ℕ). tail net x) y ∙ source_back_tail m R ps pt j e in absurd (omega arith)
    right_least f q x w (inr (inl (j, e, inl y))) =
        let u : tail net f ≡ a + j = ap (λ (x : ℕ). tail net x) y ∙ sink_tail m R ps pt j e in
        let d : j ≡ k = omega arith in
        absurd (true≢false (sym (sink_on f x j e y) ∙ ap (λ (x : ℕ). lt eps (get_or B x nan)) d ∙ off))
    right_least f q x w (inr (inl (j, e, inr y))) = let u : tail net f ≡ suc (a + b) = ap (λ (x : ℕ). tail net x) y ∙ sink_back_tail m R ps pt j e in absurd (omega arith)
    right_least f q x w (inr (inr (p, j, e, e', u, inl y))) = let v : tail net f ≡ p = ap (λ (x : ℕ). tail net x) y ∙ cross_tail m R ps pt p j e e' u in absurd (omega arith)
    right_least f q x w (inr (inr (p, j, e, e', u, inr y))) = pick (lt_or_ge p i) (eq_or_ne p i)
      where
        same : j ≡ k
        same = let v : tail net f ≡ a + j = ap (λ (x : ℕ). tail net x) y ∙ cross_back_tail m R ps pt p j e e' u in omega arith

        here : held m R ps pt p k ≡ true
        here = ap (λ (x : ℕ). held m R ps pt p x) (sym same) ∙ u

        number : cross_link m R ps pt p j ≡ cross_link m R ps pt p k
        number = ap (λ (x : ℕ). cross_link m R ps pt p x) same

        pick : (p < i) ⊎ (i ≤ p) → (p ≡ i) ⊎ (p ≢ i) → suc (cross_link m R ps pt i k) ≤ f
        pick (inl v) d =
            let n = none p v here (ap (λ (x : ℕ). lt eps (get_or F (p * b + x) nan)) (sym same) ∙ back_on f x p j e e' u y) in
            let o = I.some k g in
            let u' = dist_right m R ps pt l r s (a + k) k refl g in
            let v' = dist_left m R ps pt l r s (head net f) p (ap (head net) y ∙ cross_back_head m R ps pt p j e e' u) e in
            absurd (omega arith)
        pick (inr v) (inl d) = let n = number in let n' = ap (λ (x : ℕ). cross_link m R ps pt x k) d in omega arith
        pick (inr v) (inr d) = let n = number in let n' = cross_down m R ps pt i p k k (omega arith) e g t in omega arith

    pub first_right : First (network_between m R ps pt) c (dist m R ps pt l r s) (length ps + k) (suc (cross_link m R ps pt i k))
    first_right =
        let u = dist_right m R ps pt l r s (a + k) k refl g in
        let v = dist_left m R ps pt l r s (head net (suc (cross_link m R ps pt i k))) i (cross_back_head m R ps pt i k h g t) h in
        record {
          from = cross_back_tail m R ps pt i k h g t;
          on = on_back i k h g t o;
          nearer = omega arith;
          least = λ f q e w. right_least f q (residual_lt c f e) w (known f e);
        }

  -- ---- routes, from their end

  pub ends_route : (k : ℕ) → k < length pt → lt eps (get_or B k nan) ≡ true → Route (network_between m R ps pt) c (dist m R ps pt l r s) (length ps + k) (sink_link m R ps pt k ∷ [])
  ends_route k g o = (first_sink k g o, sink_head m R ps pt k g)

  pub longer_route : (u e v : ℕ) (p : List ℕ) → First (network_between m R ps pt) c (dist m R ps pt l r s) u e → head (network_between m R ps pt) e ≡ v
      → Route (network_between m R ps pt) c (dist m R ps pt l r s) v p → Route (network_between m R ps pt) c (dist m R ps pt l r s) u (e ∷ p)
  longer_route u e v p F z Q = (F, subst⁻¹ (λ (x : ℕ). Route net c D x p) z Q)
