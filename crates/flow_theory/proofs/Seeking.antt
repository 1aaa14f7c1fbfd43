-- The first link of a node that leads on, sought from its mark: the links before it are passed at once.
use mathlib.Core.Path.{◌≡◌, sym, ap, subst, subst⁻¹, ◌∙◌}
use mathlib.Core.Logic.{◌≢◌, ◌⊎◌, inl, inr}
use Prim.Native.Nat.{ℕ, zero, suc, ◌+◌, ◌-◌, ◌≤◌, ◌<◌}
use mathlib.Core.List.{List}
use native.Mathlib.Omega.{arith}
use native.Mathlib.Nat.{le_refl}
use lib.ListN.{length, get_or, set, take, drop}
use lib.Seq.{get_or-set_same, set-get_or, set-set}
use Rattle.numbers.specs.Lists.{In}
use Rattle.numbers.proofs.Members.{in_at}
use lib.Ieee.{Float}
use Rattle.numbers.proofs.Bools.{eq_or_ne}
use Rattle.flow_theory.specs.Network.{Net, head, out}
use Rattle.flow_theory.proofs.Paths.{gauge}
use Rattle.flow_theory.proofs.PathRows.{Walkable, Leads, Idle, Seekable, Sought}
use Rattle.flow_theory.proofs.Scanning.{part_length, part_at}
use Rattle.flow_theory.proofs.Walking.{Walking, standing, u_next, took, took_less, skipped, skipped_less}

-- the links before j are passed
pub record Seeking (H row : List ℕ) (c : List Float) (L : List ℕ) (want j : ℕ) : Type 0 where
  pub ends : j ≤ length row
  pub passed : (i : ℕ) → i < j → Idle H c L want (get_or row i 0)

module _ {H row : List ℕ} {c : List Float} {L : List ℕ} {want j : ℕ} (I : Seeking H row c L want j) where
  pub seek_on : j < length row → Idle H c L want (get_or row j 0) → Seeking H row c L want (j + 1)
  seek_on h idle = record { ends = omega arith; passed = λ i b. pick i b (eq_or_ne i j) }
    where
      pick : (i : ℕ) → i < j + 1 → (i ≡ j) ⊎ (i ≢ j) → Idle H c L want (get_or row i 0)
      pick i b (inl q) = subst⁻¹ (λ (x : ℕ). Idle H c L want (get_or row x 0)) q idle
      pick i b (inr d) = I.passed i (omega arith)

  pub seek_found : Leads H c L want (get_or row j 0) → Sought H row c L want j
  seek_found leads = record { ends = I.ends; passed = I.passed; found = λ h. leads }

-- es are the links of u
module _ {N : Net} {starts list : List ℕ} {c : List Float} {L nx₀ p₀ : List ℕ} (W : Walkable N starts list c L nx₀) {u len : ℕ} {p nx : List ℕ} (I : Walking N c L nx₀ p₀ u len p nx) (off : u ≢ N.sink) {es : List ℕ} (is : es ≡ out N u) where
  abbrev moved : ℕ → List ℕ
  moved m = set nx u m

  mark_is : (m : ℕ) → get_or (moved m) u 0 ≡ m
  mark_is m = get_or-set_same nx u m 0 (u_next W I)

  -- the first k links from the mark on are passed
  skips : (k : ℕ) → get_or nx u 0 + k ≤ length es → ((i : ℕ) → i < k → Idle N.heads c L (len + 1) (get_or es (get_or nx u 0 + i) 0))
      → Walking N c L nx₀ p₀ u len p (moved (get_or nx u 0 + k)) × (gauge N L (standing u len p (moved (get_or nx u 0 + k))) + k ≤ gauge N L (standing u len p nx))
  skips zero h f =
      let q : nx ≡ moved (get_or nx u 0 + 0) = sym (ap (set nx u) (let z : get_or nx u 0 + 0 ≡ get_or nx u 0 = omega arith in z) ∙ set-get_or nx u 0) in
      subst (λ (l : List ℕ). Walking N c L nx₀ p₀ u len p l × (gauge N L (standing u len p l) + 0 ≤ gauge N L (standing u len p nx))) q (I, omega arith)
  skips (suc k) h f = next (skips k (omega arith) (λ i l. f i (omega arith)))
    where
      next : Walking N c L nx₀ p₀ u len p (moved (get_or nx u 0 + k)) × (gauge N L (standing u len p (moved (get_or nx u 0 + k))) + k ≤ gauge N L (standing u len p nx))
          → Walking N c L nx₀ p₀ u len p (moved (get_or nx u 0 + suc k)) × (gauge N L (standing u len p (moved (get_or nx u 0 + suc k))) + suc k ≤ gauge N L (standing u len p nx))
      next (J, g) =
          let e = mark_is (get_or nx u 0 + k) in
          let more : get_or (moved (get_or nx u 0 + k)) u 0 < length es = omega arith in
          let idle = subst⁻¹ (λ (x : ℕ). Idle N.heads c L (len + 1) (get_or es x 0)) e (f k (omega arith)) in
          let q : set (moved (get_or nx u 0 + k)) u (get_or (moved (get_or nx u 0 + k)) u 0 + 1) ≡ moved (get_or nx u 0 + suc k)
          = set-set nx u (get_or nx u 0 + k) (get_or (moved (get_or nx u 0 + k)) u 0 + 1) ∙ ap (set nx u) (let z : get_or (moved (get_or nx u 0 + k)) u 0 + 1 ≡ get_or nx u 0 + suc k = omega arith in z) in
          let less = subst (λ (l : List ℕ). gauge N L (standing u len p l) < gauge N L (standing u len p (moved (get_or nx u 0 + k)))) q (skipped_less W J off is more idle) in
          (subst (Walking N c L nx₀ p₀ u len p) q (skipped W J off is more idle), omega arith)

  -- the rest of them, from the mark on
  module _ (more : get_or nx u 0 < length es) where
    abbrev row : List ℕ
    row = take (length es - get_or nx u 0) (drop (get_or nx u 0) es)

    row_length : length row ≡ length es - get_or nx u 0
    row_length = part_length es (omega arith) (le_refl (length es))

    row_at : (i : ℕ) → i < length row → get_or row i 0 ≡ get_or es (get_or nx u 0 + i) 0
    row_at = part_at es (omega arith) (le_refl (length es))

    pub row_seekable : Seekable N.heads row c L
    unfolding head
    row_seekable j b =
        let l = row_length in
        let k = (W.good.listed u (get_or row j 0) (subst (In (get_or row j 0)) is (rw (row_at j b) (in_at es (get_or nx u 0 + j) 0 (omega arith))))).0 in
        (k, rw W.caps.size k, rw W.levels.len (W.good.heads_in (get_or row j 0) k))

    passes : {k : ℕ} → Sought N.heads row c L (len + 1) k
        → Walking N c L nx₀ p₀ u len p (moved (get_or nx u 0 + k)) × (gauge N L (standing u len p (moved (get_or nx u 0 + k))) + k ≤ gauge N L (standing u len p nx))
    passes {k} S =
        let l = row_length in
        let e = S.ends in
        skips k (omega arith) (λ i h. subst (Idle N.heads c L (len + 1)) (row_at i (omega arith)) (S.passed i h))

    -- no link leads on
    module _ (S : Sought N.heads row c L (len + 1) (length row)) where
      all_passed : get_or nx u 0 + length row ≡ length es
      all_passed = let l = row_length in omega arith

      pub none_on : Walking N c L nx₀ p₀ u len p (set nx u (length es))
      none_on = subst (λ (x : ℕ). Walking N c L nx₀ p₀ u len p (set nx u x)) all_passed (passes S).0

      pub none_less : gauge N L (standing u len p (set nx u (length es))) < gauge N L (standing u len p nx)
      none_less = subst (λ (x : ℕ). gauge N L (standing u len p (set nx u x)) < gauge N L (standing u len p nx)) all_passed (let g = (passes S).1 in let l = row_length in omega arith)

    -- link k leads on
    module _ {k : ℕ} (S : (k < length row) × Sought N.heads row c L (len + 1) k) where
      still : get_or (moved (get_or nx u 0 + k)) u 0 < length es
      still = let e = mark_is (get_or nx u 0 + k) in let l = row_length in let h = S.0 in omega arith

      at_k : get_or es (get_or (moved (get_or nx u 0 + k)) u 0) 0 ≡ get_or row k 0
      at_k = ap (λ (x : ℕ). get_or es x 0) (mark_is (get_or nx u 0 + k)) ∙ sym (row_at k S.0)

      leads : Leads N.heads c L (len + 1) (get_or es (get_or (moved (get_or nx u 0 + k)) u 0) 0)
      leads = subst⁻¹ (Leads N.heads c L (len + 1)) at_k (S.1.found S.0)

      pub found_on : Walking N c L nx₀ p₀ (get_or N.heads (get_or row k 0) 0) (len + 1) (set p len (get_or row k 0)) (set nx u (get_or nx u 0 + k))
      found_on = subst (λ (e : ℕ). Walking N c L nx₀ p₀ (get_or N.heads e 0) (len + 1) (set p len e) (set nx u (get_or nx u 0 + k))) at_k (took W (passes S.1).0 off is still leads)

      pub found_less : gauge N L (standing (get_or N.heads (get_or row k 0) 0) (len + 1) (set p len (get_or row k 0)) (set nx u (get_or nx u 0 + k))) < gauge N L (standing u len p nx)
      found_less =
          let g = (passes S.1).1 in
          let t = subst (λ (e : ℕ). gauge N L (standing (get_or N.heads e 0) (len + 1) (set p len e) (set nx u (get_or nx u 0 + k))) < gauge N L (standing u len p (set nx u (get_or nx u 0 + k)))) at_k (took_less W (passes S.1).0 off is still leads) in
          omega arith
